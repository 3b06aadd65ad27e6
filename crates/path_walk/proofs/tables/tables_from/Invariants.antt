use Rattle.std.proofs.Common.{◌≡◌, map, take}
use Rattle.topology.specs.View.{policy_of}
use Rattle.path_walk.specs.Seen.{site_of}
use Rattle.path_walk.specs.Tables.{table_seen, table_between}
use Rattle.path_walk.proofs.tables.tables_from.Given as goal

abbrev pub invariant-loop-to : goal.invariant-loop-to
invariant-loop-to l = map table_seen l.tables.items ≡ map (table_between (site_of (policy_of l.topo) l.graph) l.from.0) (take l.to-index l.wanted)
