use Rattle.std.proofs.Common.{◌≡◌, ◌∙◌, [], length, sym, ap, arith}
use Rattle.std.proofs.lemmas.Bool.{eqb-true}
use Rattle.std.specs.Prelude.{◌==◌}
use Rattle.std.proofs.Math.ListN.{length-map}
use Rattle.policy_model.specs.Policy.{router_at}
use Rattle.policy_model.specs.Zones.{zone_at}
use Rattle.topology.specs.View.{policy_of}
use Rattle.group_expand.specs.Seen.{site_of, numbers_of, iface_numbers}
use Rattle.group_expand.proofs.Rows.{in_row, at_number}
use Rattle.group_expand.proofs.Search.{goes_on, row_on, row_whole}
use Rattle.group_expand.proofs.spread.fan_out.Goals as goal

pub visit_by-requires-clause-there : goal.visit_by-requires-clause-there
visit_by-requires-clause-there c =
    let p = policy_of c.args.topo in
    (in_row (λ i. router_at p i == c.iface.result.router.0) (length p.ifaces) c.ifs_of-row.result.now c.ifs_of-row.ensures c.loop-j.j-index c.loop-j-test.true).0

pub visit_by-requires-clause-one_router : goal.visit_by-requires-clause-one_router
visit_by-requires-clause-one_router c =
    let p = policy_of c.args.topo in
    ap (λ i. i.router) c.iface.ensures.seen
    ∙ sym (eqb-true (router_at p _) c.iface.result.router.0
    (in_row (λ i. router_at p i == c.iface.result.router.0) (length p.ifaces) c.ifs_of-row.result.now c.ifs_of-row.ensures c.loop-j.j-index c.loop-j-test.true).1)

pub loop-j-preserved : goal.loop-j-preserved
loop-j-preserved c =
    let s = site_of c.args.topo c.args.graph.now in
    let marks = c.args.marks.now in
    let here = c.in_ok-visit_by.ensures in (
      λ passed ahead. goes_on s marks (zone_at s c.args.i.0) c.args.seen.now passed c.loop-j.seen passed c.visit_by.new.seen passed (numbers_of c.args.left.now.items) ahead
          (numbers_of c.loop-j.left.items) ahead (numbers_of c.visit_by.new.left.items) ahead (c.loop-j.invariant.0 passed ahead) (here.goes passed ahead),
      row_on s marks c.loop-j.seen c.visit_by.new.seen (iface_numbers c.ifs_of-row.result.now) c.loop-j.j-index _ (here.goes [] []).grows c.loop-j.invariant.1
          (at_number c.ifs_of-row.result.now c.loop-j.j-index) here.seen,
    )

pub returns-clause-seen : goal.returns-clause-seen
returns-clause-seen c =
    let s = site_of c.args.topo c.args.graph.now in
    let row = c.ifs_of-row.result.now in
    let long = length-map row (λ i. i.0) in
    let its : router_at s.policy c.args.i.0 ≡ c.iface.result.router.0 = ap (λ i. i.router) c.iface.ensures.seen in
    λ j hj o same. row_whole s c.args.marks.now c.loop-j.seen (iface_numbers row) c.loop-j.j-index c.iface.result.router.0 c.ifs_of-row.ensures (omega (arith, long, c.loop-j-test.false))
    c.loop-j.invariant.1 j hj o (same ∙ its)
