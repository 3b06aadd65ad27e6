use Rattle.std.proofs.Common.{◌≡◌, [], map, drop}
use Rattle.policy_shapes.specs.Seen.{iface_seen}
use Rattle.policy_shapes.specs.Keys.{has_key, clash_known, hardware_asked, hardware_keys}
use Rattle.policy_decls.specs.Shapes as shapes
use Rattle.policy_shapes.proofs.clash.share_hardware.Given as goal

abbrev pub invariant-loop-iface : goal.invariant-loop-iface
invariant-loop-iface l = clash_known hardware_asked hardware_keys (has_key l.earlier) (map iface_seen (drop l.iface-index l.ifaces)) ≡ shapes.clash_with shapes.has_hardware_of [] (map iface_seen l.ifaces)
