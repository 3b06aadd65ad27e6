use Rattle.std.proofs.Common.{◌≡◌, map, take}
use Rattle.std.specs.Prelude.{flat_map}
use Rattle.topology.specs.View.{policy_of}
use Rattle.permit_set.specs.Shown.{permit_of}
use Rattle.path_walk.specs.Seen.{site_of}
use Rattle.static_routes.specs.Chains.{pair_order}
use Rattle.static_routes.specs.Found.{with_keys}
use Rattle.static_routes.specs.Ways.{permit_ways}
use Rattle.static_routes.proofs.ways.add_permits.Given as goal

abbrev pub invariant-loop-q : goal.invariant-loop-q
invariant-loop-q l = l.ways.keys ≡ with_keys pair_order l.fn.ways.keys (flat_map (permit_ways (site_of (policy_of l.topo) l.graph)) (map permit_of (take l.q-index l.permits)))
