use Rattle.std.proofs.Common.{◌≡◌, drop}
use Rattle.topology.specs.View.{policy_of}
use Rattle.path_walk.specs.Seen.{site_of, path_seen}
use Rattle.path_walk.specs.Search.{end_of}
use Rattle.path_walk.proofs.onward.end_of.Given as goal

abbrev pub invariant-loop-c : goal.invariant-loop-c
invariant-loop-c l = end_of (site_of (policy_of l.fn.topo) l.fn.graph) l.end.0 (path_seen (drop l.c-index l.path)) ≡ end_of (site_of (policy_of l.fn.topo) l.fn.graph) l.fn.from.0 (path_seen l.path)
