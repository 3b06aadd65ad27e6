use Rattle.std.proofs.Common.{◌∙◌, sym, subst, take}
use Rattle.std.proofs.lemmas.List.{take_all}
use Rattle.nat_view.specs.Places.{rows_of}
use Rattle.nat_view.specs.Firsts.{AreFirsts}
use Rattle.nat_view.specs.Met.{AreFirstPlaces}
use Rattle.nat_view.proofs.Meeting.{zones_first}
use Rattle.nat_view.proofs.views.Views.first_zones.Goals as goal

pub returns : goal.returns
returns c =
    let self = c.args.self.now in
    let listed = c.deref-k-items.result.now in
    let firsts = subst (λ xs. AreFirstPlaces (take self.zones xs) listed) c.deref.ensures.value
    (subst (λ ys. AreFirstPlaces (take self.zones c.deref.result.now) ys) (sym c.deref-k-items.ensures.value) c.in_ok-listed.ensures) in
    subst (AreFirsts (take self.zones (rows_of self.tables.items self.places.items))) (sym (c.loop-k.invariant ∙ take_all c.loop-k.k-index listed c.loop-k-test.false))
    (zones_first self.tables.items self.places.items listed self.zones firsts)
