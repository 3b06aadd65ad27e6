use Rattle.std.proofs.Common.{◌≡◌, ◌∙◌, List, Bool, true, length, sym, ap, subst}
use Rattle.std.specs.Prelude.{◌↔◌}
use Rattle.policy_model.specs.Tags.{IsActive, IsBarred}
use Rattle.nat_domains.specs.Inner.{IsActiveIn, IsInnerTag}
use Rattle.nat_domains.specs.Marks.{site_of, is_marked}
use Rattle.nat_domains.specs.Rows.{tag_rows, HasAdded}
use Rattle.nat_domains.proofs.Conflicting.{zone_found}
use Rattle.nat_domains.proofs.Listing.{lists_more}
use Rattle.nat_domains.proofs.Viewed.{zones_counted}
use Rattle.nat_domains.proofs.table.colour_tag.Goals as goal

pub returns-clause-zones : goal.returns-clause-zones
returns-clause-zones c =
    let old = tag_rows c.args.zones.now in
    let new = tag_rows c.put_marked.new.rows in
    lists_more (IsActiveIn (site_of c.args.topo c.args.graph.now)) c.args.tag.0 c.in_ok-active.active.items old new
    (subst (λ (marks : List Bool). HasAdded c.args.tag.0 marks old new) c.deref-4.ensures.value c.in_ok-put_marked.ensures.put) c.in_ok-active.ensures.active

pub returns-clause-inner : goal.returns-clause-inner
returns-clause-inner c =
    let old = tag_rows c.args.inner.now in
    let new = tag_rows c.put_marked-2.new.rows in
    lists_more (IsInnerTag (site_of c.args.topo c.args.graph.now)) c.args.tag.0 c.in_ok-seeing.seeing.items old new
    (subst (λ (marks : List Bool). HasAdded c.args.tag.0 marks old new) c.deref-5.ensures.value c.in_ok-put_marked-2.ensures.put) c.in_ok-seeing.ensures.inner

pub returns-clause-conflict : goal.returns-clause-conflict
returns-clause-conflict c =
    let s = site_of c.args.topo c.args.graph.now in
    let tag = c.args.tag.0 in
    let active = c.deref-6.result.now in
    let barred = c.deref-7.result.now in
    let counted = zones_counted s (length c.args.graph.now.nets) c.requires.graph.numbers in
    zone_found s tag active barred c.count.result (ap length c.deref-6.ensures.value ∙ (c.in_ok-active.ensures.each ∙ sym c.count.ensures)) (counted ∙ sym c.count.ensures)
    (λ z. subst (λ (marks : List Bool). (is_marked marks z ≡ true) ↔ IsActive s tag z) (sym c.deref-6.ensures.value) (c.in_ok-active.ensures.active z))
    (λ z. subst (λ (marks : List Bool). (is_marked marks z ≡ true) ↔ IsBarred s tag z) (sym c.deref-7.ensures.value) (c.in_ok-barred.ensures.barred z)) c.first_shared.result c.first_shared.ensures
