use Rattle.std.proofs.Common.{◌∙◌, ap}
use Rattle.topology.specs.View.{policy_of}
use Rattle.permit_set.specs.declared.permit.Permit.{Permit}
use Rattle.permit_set.specs.Shown.{permit_of}
use Rattle.path_walk.specs.Seen.{site_of}
use Rattle.static_routes.specs.Chains.{pair_order}
use Rattle.static_routes.specs.Found.{with_keys}
use Rattle.static_routes.specs.Ways.{permit_ways}
use Rattle.static_routes.proofs.Adding.{with_next}
use Rattle.static_routes.proofs.ways.add_permits.Goals as goal

pub loop-q-preserved : goal.loop-q-preserved
loop-q-preserved c =
    let s = site_of (policy_of c.args.topo) c.args.graph.now in
    with_next pair_order (permit_ways s) permit_of c.args.permits.now c.loop-q.q-index c.q-item.result c.args.ways.now.keys c.loop-q.ways.keys c.add_permit.new.ways.keys c.loop-q-test.true c.loop-q.invariant
    (c.in_ok-add_permit.ensures ∙ ap (λ (q : Permit). with_keys pair_order c.loop-q.ways.keys (permit_ways s (permit_of q))) c.q-item.is)
