use Rattle.std.proofs.Common.{◌≡◌, map, flat_map, drop, slice_get}
use Rattle.spoc_ast.specs.Seen.{net_part_seen}
use Rattle.policy_decls.specs.Lookup as plain
use Rattle.policy_shapes.proofs.network.first_prefix.Given as goal

abbrev pub invariant-loop-part : goal.invariant-loop-part
invariant-loop-part l = slice_get (flat_map plain.ips_in_net_part (map net_part_seen l.parts)) 0 ≡ slice_get (flat_map plain.ips_in_net_part (map net_part_seen (drop l.part-index l.parts))) 0
