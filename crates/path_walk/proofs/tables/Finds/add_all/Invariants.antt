use Rattle.std.proofs.Common.{length}
use Rattle.policy_model.specs.Walks.{all_crossings}
use Rattle.topology.specs.View.{policy_of}
use Rattle.path_walk.specs.Seen.{site_of, path_seen}
use Rattle.path_walk.specs.Search.{AreOpen, most_of, weight}
use Rattle.path_walk.specs.Stack.{open_seen}
use Rattle.path_walk.specs.Swept.{numbers_of}
use Rattle.path_walk.specs.Tables.{HaveSameEnds}
use Rattle.path_walk.proofs.Ends.{AreFound}
use Rattle.path_walk.proofs.tables.Finds.add_all.Given as goal

abbrev pub invariant-loop-search : goal.invariant-loop-search
invariant-loop-search l =
    let s = site_of (policy_of l.fn.topo) l.fn.graph in
    AreOpen s l.fn.from.0 (path_seen l.search.path.items) (length (path_seen l.search.path.items)) (open_seen l.search.open.items)
    × AreFound s l.fn.from.0 (numbers_of l.fn.wanted) l.self.ends (path_seen l.search.path.items) (open_seen l.search.open.items)
    × HaveSameEnds l.fn.self.ends l.self.ends

abbrev pub decreases-loop-search : goal.decreases-loop-search
decreases-loop-search l =
    let s = site_of (policy_of l.fn.topo) l.fn.graph in
    weight (most_of s) (length (all_crossings s)) (open_seen l.search.open.items)
