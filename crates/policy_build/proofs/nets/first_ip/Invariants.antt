use Rattle.std.proofs.Common.{◌≡◌, map, flat_map, drop, slice_get}
use Rattle.spoc_ast.specs.Seen.{nat_part_seen}
use Rattle.policy_decls.specs.Lookup.{ips_in_nat_part}
use Rattle.policy_build.proofs.nets.first_ip.Given as goal

abbrev pub invariant-loop-part : goal.invariant-loop-part
invariant-loop-part l =
    slice_get (flat_map ips_in_nat_part (map nat_part_seen l.parts)) 0 ≡ slice_get (flat_map ips_in_nat_part (map nat_part_seen (drop l.part-index l.parts))) 0
