use Rattle.std.proofs.Common.{◌≡◌, map, flat_map, drop, slice_get}
use Rattle.spoc_ast.specs.Seen.{any_part_seen}
use Rattle.policy_decls.specs.Shapes.{links_in}
use Rattle.policy_build.proofs.aggregates.first_link.Given as goal

abbrev pub invariant-loop-part : goal.invariant-loop-part
invariant-loop-part l =
    slice_get (flat_map links_in (map any_part_seen l.parts)) 0 ≡ slice_get (flat_map links_in (map any_part_seen (drop l.part-index l.parts))) 0
