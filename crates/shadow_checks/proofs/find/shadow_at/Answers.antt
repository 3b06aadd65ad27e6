use Rattle.std.proofs.Common.{ℕ, List, sym, ap, subst}
use Rattle.std.specs.Prelude.{IsTrue}
use Rattle.policy_model.specs.FirstFault.{AtZone, AtRouter}
use Rattle.topology.specs.View.{policy_of}
use Rattle.nat_view.specs.Fails.{place_seen}
use Rattle.nat_view.specs.Seen.{Sight, AreApartIn, has_view}
use Rattle.nat_view.specs.Views.{seen_of}
use Rattle.nat_view.specs.declared.fail.ViewAt.{ViewAt}
use Rattle.shadow_checks.proofs.find.shadow_at.Goals as goal

pub first_here-requires-clause-apart : goal.first_here-requires-clause-apart
first_here-requires-clause-apart c =
    let p = policy_of c.args.topo in
    let v = (seen_of c.args.views.now).views in
    let viewed = subst (λ (x : ViewAt). IsTrue (has_view v (place_seen x))) c.in-Zone.is c.requires.viewed in
    subst (λ (tags : List ℕ). AreApartIn p tags) (sym (ap (λ (s : Sight). s.tags) c.zone.ensures)) (c.requires.ready.apart (AtZone c.in-Zone.z.0) viewed)

pub first_here-requires-in-Router-clause-apart : goal.first_here-requires-in-Router-clause-apart
first_here-requires-in-Router-clause-apart c =
    let p = policy_of c.args.topo in
    let v = (seen_of c.args.views.now).views in
    let viewed = subst (λ (x : ViewAt). IsTrue (has_view v (place_seen x))) c.in-Router.is c.requires.viewed in
    subst (λ (tags : List ℕ). AreApartIn p tags) (sym (ap (λ (s : Sight). s.tags) c.router.ensures)) (c.requires.ready.apart (AtRouter c.in-Router.r.0) viewed)
