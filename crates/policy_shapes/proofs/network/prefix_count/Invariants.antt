use Rattle.std.proofs.Common.{◌≡◌, ◌+◌, ◌≤◌, length, map, flat_map, drop}
use Rattle.spoc_ast.specs.Seen.{net_part_seen}
use Rattle.policy_decls.specs.Lookup as plain
use Rattle.policy_shapes.proofs.network.prefix_count.Given as goal

abbrev pub invariant-loop-part : goal.invariant-loop-part
invariant-loop-part l = record {
  counted : l.count + length (flat_map plain.ips_in_net_part (map net_part_seen (drop l.part-index l.parts))) ≡ length (flat_map plain.ips_in_net_part (map net_part_seen l.parts));
  within : l.count ≤ l.part-index;
}
