use Rattle.topology.specs.View.{policy_of}
use Rattle.path_walk.specs.Seen.{site_of}
use Rattle.static_routes.specs.Found.{found_order, way_found}
use Rattle.static_routes.proofs.Adding.{with_item}
use Rattle.static_routes.proofs.search.add_all.Goals as goal

pub loop-way-preserved : goal.loop-way-preserved
loop-way-preserved c =
    let s = site_of (policy_of c.args.topo) c.args.graph.now in
    with_item found_order (λ w. way_found s w.0 w.1) c.args.ways.now c.loop-way.way-index (0, 0) c.args.found.now.keys c.loop-way.found.keys c.add_traffic.new.found.keys c.loop-way-test.true c.loop-way.invariant
    c.in_ok-add_traffic.ensures
