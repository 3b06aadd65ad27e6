use Rattle.std.proofs.Common.{◌≡◌, map, flat_map, drop, slice_get}
use Rattle.spoc_ast.specs.Seen.{area_part_seen}
use Rattle.policy_decls.specs.Shapes.{anchors_in}
use Rattle.policy_build.proofs.areas.first_anchor.Given as goal

abbrev pub invariant-loop-part : goal.invariant-loop-part
invariant-loop-part l =
    slice_get (flat_map anchors_in (map area_part_seen l.parts)) 0 ≡ slice_get (flat_map anchors_in (map area_part_seen (drop l.part-index l.parts))) 0
