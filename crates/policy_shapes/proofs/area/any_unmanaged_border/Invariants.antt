use Rattle.std.proofs.Common.{◌≡◌, map, flat_map, drop}
use Rattle.std.specs.List.{list_any}
use Rattle.spoc_ast.specs.Seen.{area_part_seen, decl_seen}
use Rattle.policy_decls.specs.Shapes as shapes
use Rattle.policy_shapes.proofs.area.any_unmanaged_border.Given as goal

abbrev pub invariant-loop-part : goal.invariant-loop-part
invariant-loop-part l = list_any (list_any (shapes.is_unmanaged_port (map decl_seen l.policy))) (flat_map shapes.borders_in (map area_part_seen (drop l.part-index l.parts))) ≡ list_any (list_any (shapes.is_unmanaged_port (map decl_seen l.policy))) (flat_map shapes.borders_in (map area_part_seen l.parts))
