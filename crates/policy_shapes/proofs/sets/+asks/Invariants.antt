use Rattle.std.proofs.Common.{◌≡◌, map, drop}
use Rattle.std.specs.List.{list_any}
use Rattle.spoc_ast.specs.Seen.{set_seen, inter_seen, term_seen}
use Rattle.policy_shapes.specs.Sets.{asks_unaligned}
use Rattle.policy_shapes.proofs.sets.+asks.Given as goal

abbrev pub invariant-asks_unaligned-loop-part : goal.invariant-asks_unaligned-loop-part
invariant-asks_unaligned-loop-part l = list_any asks_unaligned (map inter_seen (drop l.part-index l.part-items)) ≡ asks_unaligned (set_seen l.set)

abbrev pub invariant-part_asks-loop-further : goal.invariant-part_asks-loop-further
invariant-part_asks-loop-further l = list_any (λ f. asks_unaligned (term_seen f.term)) (drop l.further-index l.further-items) ≡ asks_unaligned (inter_seen l.part)
