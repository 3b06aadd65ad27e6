use Rattle.std.proofs.Common.{◌≡◌, drop, map}
use Rattle.acl_print.specs.Seen.{port_seen}
use Rattle.acl_print.specs.DeviceText.{hardware_of}
use Rattle.acl_print.proofs.asa.hardware_of.Given as goal

abbrev pub invariant-loop-port : goal.invariant-loop-port
invariant-loop-port l = hardware_of (map port_seen l.ports) l.number.0 ≡ hardware_of (map port_seen (drop l.port-index l.ports)) l.number.0
