use Rattle.std.proofs.Common.{◌≡◌, take}
use Rattle.std.specs.Prelude.{flat_map}
use Rattle.topology.specs.View.{policy_of}
use Rattle.path_walk.specs.Seen.{site_of}
use Rattle.static_routes.specs.Found.{with_found, way_found}
use Rattle.static_routes.proofs.search.add_all.Given as goal

abbrev pub invariant-loop-way : goal.invariant-loop-way
invariant-loop-way l = l.found.keys ≡ with_found l.fn.found.keys (flat_map (λ w. way_found (site_of (policy_of l.topo) l.graph) w.0 w.1) (take l.way-index l.ways))
