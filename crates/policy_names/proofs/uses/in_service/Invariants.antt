use Rattle.std.proofs.Common.{◌≡◌, map, flat_map, drop, ◌++◌}
use Rattle.spoc_ast.specs.Seen.{rule_seen}
use Rattle.policy_decls.specs.Uses.{uses_in_rule}
use Rattle.policy_names.specs.Seen.{mention_seen}
use Rattle.policy_names.proofs.uses.in_service.Given as goal

abbrev pub invariant-loop-rule : goal.invariant-loop-rule
invariant-loop-rule l =
    map mention_seen l.found.items ++ flat_map uses_in_rule (map rule_seen (drop l.rule-index l.rules))
    ≡ map mention_seen l.initial.found.items ++ flat_map uses_in_rule (map rule_seen (l.rules))
