-- The lines left tell it as all of them do.
use Rattle.std.proofs.Common.{◌≡◌, map, drop}
use Rattle.std.specs.List.{list_any}
use Rattle.device_reading.specs.Grammar as plain
use Rattle.acl_read.specs.Seen.{fact_seen}
use Rattle.acl_read.proofs.above.opens_list.Given as goal

abbrev pub invariant-loop-fact : goal.invariant-loop-fact
invariant-loop-fact l = list_any (plain.opens_list l.name) (map fact_seen l.above) ≡ list_any (plain.opens_list l.name) (map fact_seen (drop l.fact-index l.above))
