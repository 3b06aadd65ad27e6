use Rattle.std.proofs.Common.{◌≡◌, take, ◌++◌}
use Rattle.topology.specs.View.{policy_of}
use Rattle.path_walk.specs.Seen.{site_of, path_seen}
use Rattle.std.specs.Prelude.{filter, map}
use Rattle.path_walk.specs.Search.{goes_on, step_of}
use Rattle.path_walk.proofs.onward.add_at.Given as goal

abbrev pub invariant-loop-leave : goal.invariant-loop-leave
invariant-loop-leave l = path_seen l.found.items ≡ path_seen l.fn.found.items ++ filter (goes_on (site_of (policy_of l.fn.topo) l.fn.graph) l.fn.from.0 (path_seen l.fn.path)) (map (step_of l.fn.enter.0) (map (λ i. i.0) (take l.leave-index l.row)))
