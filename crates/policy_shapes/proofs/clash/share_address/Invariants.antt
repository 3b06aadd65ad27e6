use Rattle.std.proofs.Common.{◌≡◌, map, flat_map, drop}
use Rattle.policy_shapes.specs.Seen.{iface_seen}
use Rattle.policy_shapes.specs.Keys.{has_key, with_keys, clash_known, address_keys}
use Rattle.policy_shapes.proofs.clash.share_address.Given as goal

abbrev pub invariant-loop-iface : goal.invariant-loop-iface
invariant-loop-iface l = record {
  clash : clash_known address_keys address_keys (has_key l.earlier) (map iface_seen (drop l.iface-index l.ifaces)) ≡ clash_known address_keys address_keys (has_key l.initial.earlier) (map iface_seen l.ifaces);
  names : with_keys (has_key l.earlier) (flat_map address_keys (map iface_seen (drop l.iface-index l.ifaces))) ≡ with_keys (has_key l.initial.earlier) (flat_map address_keys (map iface_seen l.ifaces));
}
