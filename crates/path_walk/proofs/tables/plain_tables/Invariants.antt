use Rattle.std.proofs.Common.{◌≡◌, ◌++◌, length, map}
use Rattle.topology.specs.View.{policy_of}
use Rattle.path_walk.specs.Seen.{site_of}
use Rattle.path_walk.specs.Tables.{table_seen, table_of}
use Rattle.path_walk.proofs.tables.plain_tables.Given as goal

abbrev pub invariant-loop-first : goal.invariant-loop-first
invariant-loop-first l =
    let s = site_of (policy_of l.topo) l.graph in
    map table_seen l.tables.items ++ map (table_of s) l.left ≡ map (table_of s) l.pairs

abbrev pub decreases-loop-first : goal.decreases-loop-first
decreases-loop-first l = length l.left
