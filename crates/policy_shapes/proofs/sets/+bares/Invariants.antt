use Rattle.std.proofs.Common.{◌≡◌, map, drop}
use Rattle.std.specs.List.{list_any}
use Rattle.spoc_ast.specs.Seen.{set_seen, inter_seen, term_seen, decl_seen}
use Rattle.policy_shapes.specs.Sets.{names_bare}
use Rattle.policy_shapes.proofs.sets.+bares.Given as goal

abbrev pub invariant-names_bare-loop-part : goal.invariant-names_bare-loop-part
invariant-names_bare-loop-part l = list_any (names_bare (map decl_seen l.policy)) (map inter_seen (drop l.part-index l.part-items)) ≡ names_bare (map decl_seen l.policy) (set_seen l.set)

abbrev pub invariant-part_names_bare-loop-further : goal.invariant-part_names_bare-loop-further
invariant-part_names_bare-loop-further l = list_any (λ f. names_bare (map decl_seen l.policy) (term_seen f.term)) (drop l.further-index l.further-items) ≡ names_bare (map decl_seen l.policy) (inter_seen l.part)
