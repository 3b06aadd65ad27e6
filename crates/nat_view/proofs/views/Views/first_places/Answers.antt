use Rattle.std.proofs.Common.{◌∙◌, ◌+◌, sym, subst, take}
use Rattle.std.proofs.lemmas.List.{take_all}
use Rattle.policy_model.specs.Faults.{all_views}
use Rattle.nat_view.specs.Firsts.{AreFirsts}
use Rattle.nat_view.specs.Met.{AreFirstPlaces, AreNamed}
use Rattle.nat_view.specs.Views.{seen_of}
use Rattle.nat_view.proofs.Meeting.{places_first, names_more}
use Rattle.nat_view.proofs.views.Views.first_places.Goals as goal

pub loop-k-preserved : goal.loop-k-preserved
loop-k-preserved c =
    let self = c.args.self.now in
    let listed = c.deref-k-items.result.now in
    let firsts = subst (λ xs. AreFirstPlaces xs listed) c.deref.ensures.value
    (subst (λ ys. AreFirstPlaces c.deref.result.now ys) (sym c.deref-k-items.ensures.value) c.in_ok-listed.ensures) in
    subst (λ names. AreNamed (seen_of self).views names (take (c.loop-k.k-index + 1) listed)) (sym c.in_ok-push.ensures.items)
    (names_more self.tables.items self.places.items self.zones c.loop-k.places.items listed c.loop-k.k-index _ c.name_of.result self.few.first firsts.below c.loop-k-test.true c.name_of.ensures c.loop-k.invariant)

pub returns-clause-firsts : goal.returns-clause-firsts
returns-clause-firsts c =
    let self = c.args.self.now in
    let listed = c.deref-k-items.result.now in
    let firsts = subst (λ xs. AreFirstPlaces xs listed) c.deref.ensures.value
    (subst (λ ys. AreFirstPlaces c.deref.result.now ys) (sym c.deref-k-items.ensures.value) c.in_ok-listed.ensures) in
    subst (AreFirsts (all_views (seen_of self).views)) (sym (c.loop-k.invariant.numbers ∙ take_all c.loop-k.k-index listed c.loop-k-test.false))
    (places_first self.tables.items self.places.items listed self.zones firsts)
