-- The routes so far and those of the facts left are all routes.
use Rattle.std.proofs.Common.{◌≡◌, ◌++◌, map, drop, flat_map}
use Rattle.dev_config.specs.Seen as seen
use Rattle.device_reading.specs.Reading as plain
use Rattle.acl_read.specs.Seen.{fact_seen}
use Rattle.acl_read.proofs.config.routes.Given as goal

abbrev pub invariant-loop-fact : goal.invariant-loop-fact
invariant-loop-fact l = map seen.route_of l.routes.items ++ flat_map plain.route_in (map fact_seen (drop l.fact-index l.all)) ≡ flat_map plain.route_in (map fact_seen l.all)
