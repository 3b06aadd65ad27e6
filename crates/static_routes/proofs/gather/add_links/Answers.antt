use Rattle.topology.specs.View.{policy_of}
use Rattle.path_walk.specs.Seen.{site_of, link_seen}
use Rattle.static_routes.specs.Found.{found_order, link_found}
use Rattle.static_routes.proofs.Adding.{with_next}
use Rattle.static_routes.proofs.gather.add_links.Goals as goal

pub loop-link-preserved : goal.loop-link-preserved
loop-link-preserved c =
    with_next found_order (link_found (site_of (policy_of c.args.topo) c.args.graph.now) c.args.v.0) link_seen c.args.links.now c.loop-link.link-index
    (record { leave = record { 0 = 0 }; enter = record { 0 = 0 } }) c.args.found.now.keys c.loop-link.found.keys c.add_link.new.found.keys c.loop-link-test.true c.loop-link.invariant c.in_ok-add_link.ensures
