use Rattle.std.proofs.Common.{◌≡◌, ◌∙◌, ℕ, length, refl, sym, ap, subst, arith}
use Rattle.std.proofs.lemmas.List.{length-map}
use Rattle.spoc_base.specs.declared.ids.TagId.{TagId}
use Rattle.policy_model.specs.Tags.{zone_view}
use Rattle.policy_model.specs.Zones.{zone_of}
use Rattle.topology.specs.View.{policy_of}
use Rattle.nat_domains.specs.Marks.{site_of}
use Rattle.nat_domains.specs.Translated.{numbers_of, IsLeastInside}
use Rattle.nat_domains.proofs.Calling.{net_zoned, table_long, zone_there}
use Rattle.nat_domains.proofs.Members.{at_row}
use Rattle.nat_domains.proofs.Pairs.{none_inside, least_inside}
use Rattle.nat_domains.proofs.refuse.tag_inside.Goals as goal

pub zone_of-requires : goal.zone_of-requires
zone_of-requires c = omega (arith, c.requires.net, c.requires.graph.table.each)

pub zone-row-requires : goal.zone-row-requires
zone-row-requires c =
    let p = policy_of c.args.topo in
    let low = net_zoned p c.args.graph.now c.requires.graph c.args.n.0 c.requires.net in
    let long = table_long p c.args.graph.now c.requires.graph c.args.table.now c.requires.views in omega (arith, low, long, c.zone_of.ensures)

pub returns-in_err-place : goal.returns-in_err-place
returns-in_err-place c =
    let p = policy_of c.args.topo in
    let s = site_of c.args.topo c.args.graph.now in
    let v = c.args.table.now in
    let n = c.args.n.0 in
    let row = c.zone-row.result.now in
    let is : numbers_of row ≡ zone_view v (zone_of s n) = c.zone-row.ensures ∙ ap (zone_view v) c.zone_of.ensures in
    let up = c.requires.views.ascending (zone_of s n) (zone_there p c.args.graph.now c.requires.graph n c.requires.net) in
    rw c.from_residual.ensures (none_inside s v n (numbers_of row) (length row) (length-map row (λ (tag : TagId). tag.0)) is up c.in_err-place.ensures)

pub bounds-row-place : goal.bounds-row-place
bounds-row-place c = c.in_ok-place.ensures.below

pub returns : goal.returns
returns c =
    let p = policy_of c.args.topo in
    let s = site_of c.args.topo c.args.graph.now in
    let v = c.args.table.now in
    let n = c.args.n.0 in
    let row = c.zone-row.result.now in
    let is : numbers_of row ≡ zone_view v (zone_of s n) = c.zone-row.ensures ∙ ap (zone_view v) c.zone_of.ensures in
    let up = c.requires.views.ascending (zone_of s n) (zone_there p c.args.graph.now c.requires.graph n c.requires.net) in
    let at = at_row (λ (tag : TagId). tag.0) row (numbers_of row) (record { 0 = 0 }) refl c.in_ok-place.place in
    subst (λ (x : ℕ). IsLeastInside s v n x) (sym at) (least_inside s v n (numbers_of row) (length row) (length-map row (λ (tag : TagId). tag.0)) is up c.in_ok-place.place c.in_ok-place.ensures)
