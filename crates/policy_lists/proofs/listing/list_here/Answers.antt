use Rattle.std.proofs.Common.{◌≡◌, ◌+◌, ◌<◌, ◌∙◌, List, map, drop, length, sym, subst, arith}
use Rattle.std.specs.Prelude.{OnOk}
use Rattle.std.proofs.lemmas.Result.{err_from_is_err_and}
use Rattle.policy_model.specs.Blocks.{list_at}
use Rattle.policy_model.specs.Filters.{Line}
use Rattle.acl_build.specs.Limit.{RefusesLines}
use Rattle.topology.specs.View.{policy_of}
use Rattle.permit_set.specs.Shown.{permit_of}
use Rattle.nat_view.specs.Views.{seen_of}
use Rattle.permit_lines.specs.Given.{site_with}
use Rattle.policy_outcome.specs.Found.{meaning_in}
use Rattle.policy_outcome.specs.Outcome.{list_for}
use Rattle.policy_lists.proofs.Premises.{zones_sized, are_known}
use Rattle.policy_lists.proofs.Interfaces.{passed_over, one_is_left, taken, list_is_for, its_number, its_blocks, its_list}
use Rattle.policy_lists.proofs.listing.list_here.Goals as goal

pub returns-then-not-is_managed_iface-clause-places : goal.returns-then-not-is_managed_iface-clause-places
returns-then-not-is_managed_iface-clause-places c =
    passed_over (meaning_in c.args.viewed.now.topo) c.args.i.0 (drop c.args.next c.args.places.now) c.requires.there (sym c.is_managed_iface.ensures ∙ c.if-not-is_managed_iface.true) c.requires.places

pub bounds-places-next : goal.bounds-places-next
bounds-places-next c = one_is_left (meaning_in c.args.viewed.now.topo) c.args.i.0 c.args.next c.args.places.now c.requires.there (sym c.is_managed_iface.ensures ∙ c.if-not-is_managed_iface.false) c.requires.places

pub overflow_add-result : goal.overflow_add-result
overflow_add-result c = let few = c.args.viewed.now.topo.kept.sound.limited.ifaces in omega (arith, c.requires.before, c.requires.there, few)

pub build-requires-clause-zones : goal.build-requires-clause-zones
build-requires-clause-zones c =
    let found = c.requires.viewed.found in zones_sized (policy_of c.args.viewed.now.topo) c.args.viewed.now.graph.now (seen_of c.args.viewed.now.views.now).views found.zoned.is_graph found.zoned.site found.views

pub build-requires-clause-permits : goal.build-requires-clause-permits
build-requires-clause-permits c = are_known (policy_of c.args.viewed.now.topo) c.args.viewed.now.topo.kept.sound c.requires.viewed.shaped (map permit_of c.args.viewed.now.permits.now) c.requires.viewed.found.expanded

pub build-requires-clause-iface : goal.build-requires-clause-iface
build-requires-clause-iface c =
    let m = meaning_in c.args.viewed.now.topo in
    let listed = sym c.is_managed_iface.ensures ∙ c.if-not-is_managed_iface.false in
    let place = c.index-places-next.result in
    let next = taken m c.args.i.0 c.args.next c.args.places.now place c.requires.there listed c.requires.places c.index-places-next.is in
    let e = its_number m (site_with (policy_of c.args.viewed.now.topo) c.args.viewed.now.graph.now) (seen_of c.args.viewed.now.views.now).views (map permit_of c.args.viewed.now.permits.now) c.requires.viewed.found.zoned.site c.requires.viewed.found.views c.requires.viewed.found.expanded
    place c.args.i.0 next.is in
    subst (λ k. k < length (policy_of c.args.viewed.now.topo).ifaces) (sym e) c.requires.there

pub build-requires-clause-place : goal.build-requires-clause-place
build-requires-clause-place c =
    let m = meaning_in c.args.viewed.now.topo in
    let listed = sym c.is_managed_iface.ensures ∙ c.if-not-is_managed_iface.false in
    let place = c.index-places-next.result in
    let next = taken m c.args.i.0 c.args.next c.args.places.now place c.requires.there listed c.requires.places c.index-places-next.is in
    its_blocks m (site_with (policy_of c.args.viewed.now.topo) c.args.viewed.now.graph.now) (seen_of c.args.viewed.now.views.now).views (map permit_of c.args.viewed.now.permits.now) c.requires.viewed.found.zoned.site c.requires.viewed.found.views c.requires.viewed.found.expanded
    place c.args.i.0 next.is

pub returns-clause-list : goal.returns-clause-list
returns-clause-list c =
    let m = meaning_in c.args.viewed.now.topo in
    let listed = sym c.is_managed_iface.ensures ∙ c.if-not-is_managed_iface.false in
    let place = c.index-places-next.result in
    let next = taken m c.args.i.0 c.args.next c.args.places.now place c.requires.there listed c.requires.places c.index-places-next.is in
    list_is_for m c.args.i.0 _ listed
    (c.in_ok-list.ensures.list
    ∙ its_list m (site_with (policy_of c.args.viewed.now.topo) c.args.viewed.now.graph.now) (seen_of c.args.viewed.now.views.now).views (map permit_of c.args.viewed.now.permits.now) c.requires.viewed.found.zoned.site c.requires.viewed.found.views c.requires.viewed.found.expanded
    place c.args.i.0 next.is)

pub returns-clause-places : goal.returns-clause-places
returns-clause-places c =
    let m = meaning_in c.args.viewed.now.topo in
    let listed = sym c.is_managed_iface.ensures ∙ c.if-not-is_managed_iface.false in
    let next = taken m c.args.i.0 c.args.next c.args.places.now c.index-places-next.result c.requires.there listed c.requires.places c.index-places-next.is in
    next.rest

pub returns-in_err-list-clause-left : goal.returns-in_err-list-clause-left
returns-in_err-list-clause-left c =
    let p = err_from_is_err_and c.from_residual.result c.from_residual.ensures.1 in
    subst (λ r. OnOk r (c.build.new.left + length (list_for (meaning_in c.args.viewed.now.topo) c.args.i.0) ≡ c.args.left.now)) (sym p.1) tt

pub returns-in_err-list-clause-refused : goal.returns-in_err-list-clause-refused
returns-in_err-list-clause-refused c =
    let m = meaning_in c.args.viewed.now.topo in
    let found = c.requires.viewed.found in
    let listed = sym c.is_managed_iface.ensures ∙ c.if-not-is_managed_iface.false in
    let place = c.index-places-next.result in
    let next = taken m c.args.i.0 c.args.next c.args.places.now place c.requires.there listed c.requires.places c.index-places-next.is in
    let s = site_with (policy_of c.args.viewed.now.topo) c.args.viewed.now.graph.now in
    let v = (seen_of c.args.viewed.now.views.now).views in
    let permits = map permit_of c.args.viewed.now.permits.now in
    let lines = list_is_for m c.args.i.0 (list_at s v permits place.iface.0) listed (its_list m s v permits found.zoned.site found.views found.expanded place c.args.i.0 next.is) in
    let p = err_from_is_err_and c.from_residual.result c.from_residual.ensures.1 in
    rw (p.1, p.2) (subst (λ (ls : List Line). RefusesLines c.args.left.now (length ls) c.in_err-list.field-0.0) lines c.in_err-list.ensures.refused)

pub returns-clause-left : goal.returns-clause-left
returns-clause-left c =
    let m = meaning_in c.args.viewed.now.topo in
    let found = c.requires.viewed.found in
    let listed = sym c.is_managed_iface.ensures ∙ c.if-not-is_managed_iface.false in
    let place = c.index-places-next.result in
    let next = taken m c.args.i.0 c.args.next c.args.places.now place c.requires.there listed c.requires.places c.index-places-next.is in
    let s = site_with (policy_of c.args.viewed.now.topo) c.args.viewed.now.graph.now in
    let v = (seen_of c.args.viewed.now.views.now).views in
    let permits = map permit_of c.args.viewed.now.permits.now in
    let lines = list_is_for m c.args.i.0 (list_at s v permits place.iface.0) listed (its_list m s v permits found.zoned.site found.views found.expanded place c.args.i.0 next.is) in
    subst (λ (ls : List Line). c.build.new.left + length ls ≡ c.args.left.now) lines c.in_ok-list.ensures.left
