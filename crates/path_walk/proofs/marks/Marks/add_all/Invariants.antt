use Rattle.std.proofs.Common.{length}
use Rattle.topology.specs.View.{policy_of}
use Rattle.path_walk.specs.Seen.{site_of, path_seen}
use Rattle.path_walk.specs.Search.{AreOpen, to_come}
use Rattle.path_walk.specs.Stack.{open_seen}
use Rattle.path_walk.specs.Pairs.{crossing_pairs, link_pairs}
use Rattle.path_walk.proofs.Marking.{IsMarking}
use Rattle.path_walk.proofs.marks.Marks.add_all.Given as goal

abbrev pub invariant-loop-search : goal.invariant-loop-search
invariant-loop-search l =
    let s = site_of (policy_of l.fn.topo) l.fn.graph in
    AreOpen s l.fn.from.0 (path_seen l.search.path.items) (length (path_seen l.search.path.items)) (open_seen l.search.open.items)
    × IsMarking s l.fn.from.0 l.fn.to.0 crossing_pairs l.fn.self.crossings.keys l.self.crossings.keys (path_seen l.search.path.items) (open_seen l.search.open.items)
    × IsMarking s l.fn.from.0 l.fn.to.0 link_pairs l.fn.self.links.keys l.self.links.keys (path_seen l.search.path.items) (open_seen l.search.open.items)

abbrev pub decreases-loop-search : goal.decreases-loop-search
decreases-loop-search l = length (to_come (site_of (policy_of l.fn.topo) l.fn.graph) l.fn.from.0 l.fn.to.0 (path_seen l.search.path.items) (open_seen l.search.open.items))
