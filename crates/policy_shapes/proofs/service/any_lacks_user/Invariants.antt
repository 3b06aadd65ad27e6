use Rattle.std.proofs.Common.{◌≡◌, map, drop}
use Rattle.std.specs.List.{list_any}
use Rattle.spoc_ast.specs.Seen.{rule_seen}
use Rattle.policy_decls.specs.Shapes as shapes
use Rattle.policy_shapes.proofs.service.any_lacks_user.Given as goal

abbrev pub invariant-loop-rule : goal.invariant-loop-rule
invariant-loop-rule l = list_any shapes.lacks_user (map rule_seen (drop l.rule-index l.rules)) ≡ list_any shapes.lacks_user (map rule_seen l.rules)
