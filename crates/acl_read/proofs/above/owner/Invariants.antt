-- The last heading so far and the lines left tell it as all lines do.
use Rattle.std.proofs.Common.{◌≡◌, map, filter, drop}
use Rattle.std.specs.Prelude.{option_map}
use Rattle.std.specs.List.{last_or}
use Rattle.device_reading.specs.Grammar as plain
use Rattle.acl_read.specs.Seen.{fact_seen}
use Rattle.acl_read.proofs.above.owner.Given as goal

abbrev pub invariant-loop-fact : goal.invariant-loop-fact
invariant-loop-fact l =
    plain.owner l.dialect (map fact_seen l.above) ≡ last_or (option_map (λ f. fact_seen f.now) l.last) (filter (plain.is_heading l.dialect) (map fact_seen (drop l.fact-index l.above)))
