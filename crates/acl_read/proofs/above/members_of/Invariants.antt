-- The members so far and those of the lines left are all members.
use Rattle.std.proofs.Common.{◌≡◌, ◌++◌, map, drop}
use Rattle.spoc_base.specs.Shown.{cidr_of}
use Rattle.device_reading.specs.Grammar as plain
use Rattle.acl_read.specs.Seen.{fact_seen}
use Rattle.acl_read.proofs.above.members_of.Given as goal

abbrev pub invariant-loop-fact : goal.invariant-loop-fact
invariant-loop-fact l = map cidr_of l.members.items ++ plain.members_of l.name (map fact_seen (drop l.fact-index l.above)) ≡ plain.members_of l.name (map fact_seen l.above)
