use Rattle.std.proofs.Common.{◌≡◌, map, flat_map, drop}
use Rattle.policy_shapes.specs.Seen.{iface_seen}
use Rattle.policy_shapes.specs.Keys.{has_key, with_keys}
use Rattle.policy_shapes.specs.Policy.{bare_keys}
use Rattle.policy_shapes.proofs.policy.bare.Given as goal

abbrev pub invariant-loop-iface : goal.invariant-loop-iface
invariant-loop-iface l = with_keys (has_key l.found) (flat_map bare_keys (map iface_seen (drop l.iface-index l.ifaces))) ≡ has_key (flat_map bare_keys (map iface_seen l.ifaces))
