-- The lists so far and those of the ports left are all lists.
use Rattle.std.proofs.Common.{◌≡◌, ◌++◌, map, drop}
use Rattle.dev_config.specs.Seen as seen
use Rattle.device_reading.specs.Reading as plain
use Rattle.acl_read.specs.Seen.{port_at, fact_seen}
use Rattle.acl_read.proofs.config.lists.Given as goal

abbrev pub invariant-loop-port : goal.invariant-loop-port
invariant-loop-port l =
    map seen.lines_of l.lists.items ++ map (plain.entries_at (map fact_seen l.all)) (map port_at (drop l.port-index l.ports)) ≡ map (plain.entries_at (map fact_seen l.all)) (map port_at l.ports)
