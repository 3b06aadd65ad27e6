use Rattle.std.proofs.Common.{◌≡◌, map, flat_map, drop, slice_get}
use Rattle.spoc_ast.specs.Seen.{virt_part_seen}
use Rattle.policy_decls.specs.Shapes.{ips_in_virtual}
use Rattle.policy_build.proofs.ifaces.first_virtual.Given as goal

abbrev pub invariant-loop-part : goal.invariant-loop-part
invariant-loop-part l =
    slice_get (flat_map ips_in_virtual (map virt_part_seen l.parts)) 0 ≡ slice_get (flat_map ips_in_virtual (map virt_part_seen (drop l.part-index l.parts))) 0
