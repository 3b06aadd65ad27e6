use Rattle.std.proofs.Common.{◌≤◌, length}
use Rattle.topology.specs.View.{policy_of}
use Rattle.path_walk.specs.Seen.{site_of, path_seen, walks_seen}
use Rattle.path_walk.specs.Search.{to_come}
use Rattle.path_walk.specs.Stack.{open_seen}
use Rattle.path_walk.proofs.FirstWalks.{IsListed}
use Rattle.path_walk.proofs.listing.walks.Given as goal

abbrev pub invariant-loop-search : goal.invariant-loop-search
invariant-loop-search l =
    IsListed (site_of (policy_of l.fn.topo) l.fn.graph) l.fn.from.0 l.fn.to.0 (walks_seen l.walks.items) (path_seen l.search.path.items) (open_seen l.search.open.items)
    × (length l.walks.items ≤ l.fn.most)

abbrev pub decreases-loop-search : goal.decreases-loop-search
decreases-loop-search l = length (to_come (site_of (policy_of l.fn.topo) l.fn.graph) l.fn.from.0 l.fn.to.0 (path_seen l.search.path.items) (open_seen l.search.open.items))
