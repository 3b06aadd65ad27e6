use Rattle.topology.specs.View.{policy_of}
use Rattle.path_walk.specs.Seen.{site_of, crossing_seen}
use Rattle.static_routes.specs.Found.{found_order, crossing_found}
use Rattle.static_routes.proofs.Adding.{with_next}
use Rattle.static_routes.proofs.gather.add_crossings.Goals as goal

pub loop-c-preserved : goal.loop-c-preserved
loop-c-preserved c =
    with_next found_order (crossing_found (site_of (policy_of c.args.topo) c.args.graph.now) c.args.v.0) crossing_seen c.args.crossings.now c.loop-c.c-index
    (record { enter = record { 0 = 0 }; leave = record { 0 = 0 } }) c.args.found.now.keys c.loop-c.found.keys c.add_crossing.new.found.keys c.loop-c-test.true c.loop-c.invariant c.in_ok-add_crossing.ensures
