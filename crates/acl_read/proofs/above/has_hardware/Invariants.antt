-- The ports left tell it as all of them do.
use Rattle.std.proofs.Common.{◌≡◌, map, drop}
use Rattle.std.specs.List.{list_any}
use Rattle.device_reading.specs.Grammar as plain
use Rattle.acl_read.specs.Seen.{port_at}
use Rattle.acl_read.proofs.above.has_hardware.Given as goal

abbrev pub invariant-loop-port : goal.invariant-loop-port
invariant-loop-port l = list_any (plain.has_hardware l.hardware) (map port_at l.ports) ≡ list_any (plain.has_hardware l.hardware) (map port_at (drop l.port-index l.ports))
