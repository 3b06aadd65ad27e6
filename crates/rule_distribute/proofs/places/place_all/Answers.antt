use Rattle.std.proofs.Common.{◌≡◌, ◌∙◌, ◌<◌, ◌≤◌, ℕ, List, length, map, ap, arith, slice_index_or}
use Rattle.std.proofs.lemmas.List.{get_or_default}
use Rattle.spoc_base.specs.declared.ids.IfId.{IfId}
use Rattle.policy_model.specs.Blocks.{Block, placement}
use Rattle.topology.specs.View.{policy_of}
use Rattle.nat_view.specs.Views.{seen_of}
use Rattle.permit_set.specs.Shown.{permit_of}
use Rattle.rule_distribute.specs.Distributed.{placed_seen}
use Rattle.permit_lines.specs.Given.{site_with}
use Rattle.rule_distribute.proofs.Interfaces.{id_below, tuple_same, one_placed, all_placed}
use Rattle.rule_distribute.proofs.places.place_all.Goals as goal

pub place_at-requires-clause-iface : goal.place_at-requires-clause-iface
place_at-requires-clause-iface c =
    let items = c.deref-i-items.result.now in
    let k = c.loop-i.i-index in
    let none : IfId = record { 0 = 0 } in
    let x = slice_index_or items k none in
    let below : k < length items = omega (arith, c.loop-i-test.true) in
    id_below (policy_of c.args.topo) items k x (ap (map (λ (i : IfId). i.0)) c.deref-i-items.ensures.value ∙ c.in_ok-ifaces.ensures {u = tt}) below (get_or_default items k none x below)

pub loop-i-preserved : goal.loop-i-preserved
loop-i-preserved c =
    let s = site_with (policy_of c.args.topo) c.args.graph.now in
    let v = (seen_of c.args.views.now).views in
    let permits = map permit_of c.args.permits.now in
    let items = c.deref-i-items.result.now in
    let k = c.loop-i.i-index in
    let none : IfId = record { 0 = 0 } in
    let x = slice_index_or items k none in
    let below : k < length items = omega (arith, c.loop-i-test.true) in
    let is = get_or_default items k none x below in
    let iface = (c.in_ok-place.ensures {u = tt}).iface in
    let blocks = (c.in_ok-place.ensures {u = tt}).blocks in
    let seen : ◌≡◌ {A = ℕ × List Block} (placed_seen c.in_ok-place.place) (x.0, placement s v permits x.0) = tuple_same iface blocks in
    ap (map placed_seen) (c.in-Ok.ensures {u = tt}) ∙ one_placed s v permits placed_seen c.loop-i.places.items c.in_ok-place.place items k x below is seen c.loop-i.invariant

pub returns : goal.returns
returns c =
    let s = site_with (policy_of c.args.topo) c.args.graph.now in
    let v = (seen_of c.args.views.now).views in
    let permits = map permit_of c.args.permits.now in
    let items = c.deref-i-items.result.now in
    let past : length items ≤ c.loop-i.i-index = omega (arith, c.loop-i-test.false) in
    c.loop-i.invariant ∙ all_placed s v permits items c.loop-i.i-index past (ap (map (λ (i : IfId). i.0)) c.deref-i-items.ensures.value ∙ c.in_ok-ifaces.ensures {u = tt})
