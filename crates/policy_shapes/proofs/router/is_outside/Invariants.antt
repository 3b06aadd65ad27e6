use Rattle.std.proofs.Common.{◌≡◌, map, flat_map, drop}
use Rattle.std.specs.List.{list_any}
use Rattle.spoc_ast.specs.Seen.{if_part_seen, decl_seen}
use Rattle.policy_decls.specs.Lookup as plain
use Rattle.policy_decls.specs.Shapes as shapes
use Rattle.policy_shapes.specs.Seen.{iface_seen}
use Rattle.policy_shapes.proofs.router.is_outside.Given as goal

abbrev pub invariant-loop-part : goal.invariant-loop-part
invariant-loop-part l =
    list_any (shapes.is_outside_net (map decl_seen l.policy) (iface_seen l.iface).net) (flat_map plain.addresses_in (map if_part_seen (drop l.part-index l.part-items)))
    ≡ shapes.is_outside (map decl_seen l.policy) (iface_seen l.iface)
