-- What the transports of rules are.
use Rattle.std.specs.List.{All}
use Rattle.spoc_base.specs.PlainSets.{IsPlainSet}
use Rattle.policy_model.specs.Policy.{Policy, Rule, Service}

-- The transports of rules are sets whose numbers are in their ranges, and none asks for established segments alone.
abbrev pub HasPlainRules : Policy → Type 0
HasPlainRules p = All (λ (service : Service). All (λ (rule : Rule). All IsPlainSet rule.boxes) service.rules) p.services
