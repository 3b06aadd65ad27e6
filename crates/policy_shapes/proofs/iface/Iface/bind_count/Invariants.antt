use Rattle.std.proofs.Common.{◌≡◌, ◌+◌, ◌≤◌, length, map, flat_map, drop}
use Rattle.spoc_ast.specs.Seen.{if_part_seen}
use Rattle.policy_decls.specs.Lookup as plain
use Rattle.policy_shapes.specs.Seen.{iface_seen}
use Rattle.policy_shapes.proofs.iface.Iface.bind_count.Given as goal

abbrev pub invariant-loop-part : goal.invariant-loop-part
invariant-loop-part l = record {
  counted : l.count + length (flat_map plain.binds_in (map if_part_seen (drop l.part-index l.part-items))) ≡ length (plain.iface_binds (iface_seen l.self));
  within : l.count ≤ l.part-index;
}
