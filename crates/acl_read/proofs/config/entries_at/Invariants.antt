-- The lines so far and those that the facts left bind are all lines of the port.
use Rattle.std.proofs.Common.{◌≡◌, ◌++◌, map, drop, flat_map}
use Rattle.dev_config.specs.Seen as seen
use Rattle.device_reading.specs.Reading as plain
use Rattle.acl_read.specs.Seen.{port_at, fact_seen}
use Rattle.acl_read.proofs.config.entries_at.Given as goal

abbrev pub invariant-loop-fact : goal.invariant-loop-fact
invariant-loop-fact l =
    map seen.line_of l.lines.items ++ flat_map (plain.bound_entries (map fact_seen l.all) l.port.hardware.now) (map fact_seen (drop l.fact-index l.all))
    ≡ plain.entries_at (map fact_seen l.all) (port_at l.port)
