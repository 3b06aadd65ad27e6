-- The lines so far and those of the facts left are all lines of the list.
use Rattle.std.proofs.Common.{◌≡◌, ◌++◌, map, drop}
use Rattle.dev_config.specs.Seen as seen
use Rattle.device_reading.specs.Reading as plain
use Rattle.acl_read.specs.Seen.{fact_seen}
use Rattle.acl_read.proofs.config.entries_of.Given as goal

abbrev pub invariant-loop-fact : goal.invariant-loop-fact
invariant-loop-fact l = map seen.line_of l.lines.items ++ plain.entries_of (map fact_seen (drop l.fact-index l.all)) l.name ≡ plain.entries_of (map fact_seen l.all) l.name
