use Rattle.std.proofs.Common.{◌≡◌, take}
use Rattle.topology.specs.View.{policy_of}
use Rattle.path_walk.specs.Seen.{site_of, path_seen}
use Rattle.std.specs.Prelude.{flat_map, map}
use Rattle.path_walk.specs.Search.{by_door}
use Rattle.path_walk.proofs.onward.onward.Given as goal

abbrev pub invariant-loop-door : goal.invariant-loop-door
invariant-loop-door l = path_seen l.found.items ≡ flat_map (by_door (site_of (policy_of l.fn.topo) l.fn.graph) l.fn.from.0 (path_seen l.fn.path)) (map (λ i. i.0) (take l.door-index l.doors))
