use Rattle.std.proofs.Common.{length}
use Rattle.policy_model.specs.Walks.{all_crossings}
use Rattle.topology.specs.View.{policy_of}
use Rattle.path_walk.specs.Seen.{site_of, path_seen}
use Rattle.path_walk.specs.Search.{most_of, weight}
use Rattle.path_walk.specs.Stack.{open_seen}
use Rattle.path_walk.proofs.Open.{IsGoing}
use Rattle.path_walk.proofs.search.Search.next.Given as goal

abbrev pub invariant-loop-branch : goal.invariant-loop-branch
invariant-loop-branch l =
    IsGoing (site_of (policy_of l.fn.topo) l.fn.graph) l.fn.from.0 l.fn.to.0 (path_seen l.fn.self.path.items) (open_seen l.fn.self.open.items) (path_seen l.self.path.items) (open_seen l.self.open.items)

abbrev pub decreases-loop-branch : goal.decreases-loop-branch
decreases-loop-branch l =
    let s = site_of (policy_of l.fn.topo) l.fn.graph in
    weight (most_of s) (length (all_crossings s)) (open_seen l.self.open.items)
