use Rattle.std.proofs.Common.{◌≡◌, map, flat_map, drop}
use Rattle.std.specs.List.{list_any}
use Rattle.spoc_ast.specs.Seen.{rule_seen}
use Rattle.policy_decls.specs.Shapes as shapes
use Rattle.policy_shapes.specs.Sets.{asks_unaligned}
use Rattle.policy_shapes.proofs.service.rules_ask.Given as goal

abbrev pub invariant-loop-rule : goal.invariant-loop-rule
invariant-loop-rule l = list_any asks_unaligned (flat_map shapes.sets_in_rule (map rule_seen (drop l.rule-index l.rules))) ≡ list_any asks_unaligned (flat_map shapes.sets_in_rule (map rule_seen l.rules))
