use Rattle.std.proofs.Common.{◌≡◌, map, flat_map, drop}
use Rattle.std.specs.List.{list_any}
use Rattle.spoc_ast.specs.Seen.{word_seen, if_part_seen, decl_seen}
use Rattle.policy_decls.specs.Shapes as shapes
use Rattle.policy_shapes.specs.Seen.{iface_seen}
use Rattle.policy_shapes.proofs.shared.any_bad_virtual.Given as goal

abbrev pub invariant-loop-part : goal.invariant-loop-part
invariant-loop-part l =
    list_any (shapes.is_bad_virtual (map decl_seen l.policy) (word_seen l.iface.net)) (flat_map shapes.virtuals_in (map if_part_seen (drop l.part-index l.part-items)))
    ≡ list_any (shapes.is_bad_virtual (map decl_seen l.policy) (word_seen l.iface.net)) (shapes.iface_virtuals (iface_seen l.iface))
