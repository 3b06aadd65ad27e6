use Rattle.std.proofs.Common.{◌≡◌, map, drop}
use Rattle.std.specs.List.{list_any}
use Rattle.spoc_ast.specs.Seen.{set_seen, inter_seen, term_seen}
use Rattle.policy_decls.specs.Shapes.{says_user}
use Rattle.policy_shapes.proofs.sets.+users.Given as goal

abbrev pub invariant-says_user-loop-part : goal.invariant-says_user-loop-part
invariant-says_user-loop-part l = list_any says_user (map inter_seen (drop l.part-index l.part-items)) ≡ says_user (set_seen l.set)

abbrev pub invariant-part_says_user-loop-further : goal.invariant-part_says_user-loop-further
invariant-part_says_user-loop-further l = list_any (λ f. says_user (term_seen f.term)) (drop l.further-index l.further-items) ≡ says_user (inter_seen l.part)
