use Rattle.std.proofs.Common.{◌≡◌, map, take}
use Rattle.std.specs.Prelude.{flat_map}
use Rattle.topology.specs.View.{policy_of}
use Rattle.path_walk.specs.Seen.{site_of, crossing_seen}
use Rattle.static_routes.specs.Found.{with_found, crossing_found}
use Rattle.static_routes.proofs.gather.add_crossings.Given as goal

abbrev pub invariant-loop-c : goal.invariant-loop-c
invariant-loop-c l = l.found.keys ≡ with_found l.fn.found.keys (flat_map (crossing_found (site_of (policy_of l.topo) l.graph) l.v.0) (map crossing_seen (take l.c-index l.crossings)))
