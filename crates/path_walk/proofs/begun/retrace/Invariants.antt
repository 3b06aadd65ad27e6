use Rattle.std.proofs.Common.{◌≡◌}
use Rattle.topology.specs.View.{policy_of}
use Rattle.path_walk.specs.Seen.{site_of, path_seen}
use Rattle.path_walk.proofs.Retracing.{IsAlong}
use Rattle.path_walk.proofs.begun.retrace.Given as goal

abbrev pub invariant-loop-c : goal.invariant-loop-c
invariant-loop-c l =
    IsAlong (site_of (policy_of l.fn.topo) l.fn.graph) l.fn.from.0 l.crossings l.c-index (path_seen l.search.path.items)
    × (l.search.open.items ≡ l.fn.search.open.items)
