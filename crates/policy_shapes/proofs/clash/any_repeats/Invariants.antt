use Rattle.std.proofs.Common.{◌≡◌, [], flat_map, map, drop}
use Rattle.std.specs.List.{list_any}
use Rattle.spoc_ast.specs.Seen.{if_part_seen}
use Rattle.policy_decls.specs.Lookup as plain
use Rattle.policy_decls.specs.Shapes as shapes
use Rattle.policy_shapes.specs.Seen.{iface_seen}
use Rattle.policy_shapes.proofs.clash.any_repeats.Given as goal

abbrev pub invariant-loop-part : goal.invariant-loop-part
invariant-loop-part l =
    list_any (λ tags. shapes.clash_with shapes.same_texts [] tags) (flat_map plain.binds_in (map if_part_seen (drop l.part-index l.part-items)))
    ≡ list_any (λ tags. shapes.clash_with shapes.same_texts [] tags) (plain.iface_binds (iface_seen l.iface))
