use Rattle.std.proofs.Common.{◌<◌, ◌≤◌, length, sym, subst, arith}
use Rattle.std.specs.Prelude.{IsTrue}
use Rattle.policy_model.specs.FirstFault.{view_at}
use Rattle.topology.specs.View.{policy_of}
use Rattle.nat_view.specs.Fails.{place_seen}
use Rattle.nat_view.specs.Seen.{has_view}
use Rattle.nat_view.specs.Views.{seen_of}
use Rattle.nat_view.specs.declared.fail.ViewAt.{ViewAt}
use Rattle.shadow_checks.specs.Holders.{HasNoneHere, IsFirstHere}
use Rattle.shadow_checks.specs.Sightings.{IsFirst}
use Rattle.shadow_checks.specs.declared.here.Shadow.{Shadow}
use Rattle.shadow_checks.proofs.Choosing.{none_of, some_of}
use Rattle.shadow_checks.proofs.Viewing.{none_more, first_at, none_seen}
use Rattle.shadow_checks.proofs.find.first_sighting.Goals as goal

pub shadow_at-requires-clause-viewed : goal.shadow_at-requires-clause-viewed
shadow_at-requires-clause-viewed c =
    let v = (seen_of c.args.views.now).views in
    let at = c.index-at.result.now in
    let low : c.loop-k.k < length c.in_ok-places.places.items = omega (arith, c.len-k-end.ensures, c.in_ok-places.places.ok.0, c.loop-k-test.true) in
    subst (λ (x : ViewAt). IsTrue (has_view v (place_seen x))) (sym c.index-at.ensures) (c.in_ok-places.ensures.viewed c.loop-k.k at low)

pub returns-in-Some : goal.returns-in-Some
returns-in-Some c =
    let p = policy_of c.args.topo in
    let v = (seen_of c.args.views.now).views in
    let at = c.index-at.result.now in
    let s = c.in-Some.shadow in
    let places = c.in_ok-places.places.items in
    let low : c.loop-k.k < length places = omega (arith, c.len-k-end.ensures, c.in_ok-places.places.ok.0, c.loop-k-test.true) in
    let view = view_at v (place_seen at) in
    let here = some_of (HasNoneHere p view) (λ (s : Shadow). IsFirstHere p view s.holder s.net.0) c.in_ok-shadow.field-0 s c.in-Some.is c.in_ok-shadow.ensures in
    subst (λ (x : ViewAt). IsFirst p v (place_seen x) s.holder s.net.0) (sym c.index-at.ensures)
    (first_at p v places c.in_ok-places.ensures.firsts c.in_ok-places.ensures.viewed c.loop-k.k at s.net.0 s.holder low
    (subst (λ (x : ViewAt). IsFirstHere p (view_at v (place_seen x)) s.holder s.net.0) c.index-at.ensures here) c.loop-k.invariant)

pub loop-k-preserved : goal.loop-k-preserved
loop-k-preserved c =
    let p = policy_of c.args.topo in
    let v = (seen_of c.args.views.now).views in
    let at = c.index-at.result.now in
    let places = c.in_ok-places.places.items in
    let low : c.loop-k.k < length places = omega (arith, c.len-k-end.ensures, c.in_ok-places.places.ok.0, c.loop-k-test.true) in
    let view = view_at v (place_seen at) in
    let none = none_of (HasNoneHere p view) (λ (s : Shadow). IsFirstHere p view s.holder s.net.0) c.in_ok-shadow.field-0 c.in_default.not-Some c.in_ok-shadow.ensures in
    none_more p v places c.loop-k.k at low (subst (λ (x : ViewAt). HasNoneHere p (view_at v (place_seen x))) c.index-at.ensures none) c.loop-k.invariant

pub returns : goal.returns
returns c =
    let places = c.in_ok-places.places.items in
    let all : length places ≤ c.loop-k.k = omega (arith, c.len-k-end.ensures, c.in_ok-places.places.ok.0, c.loop-k-test.false) in
    none_seen (policy_of c.args.topo) (seen_of c.args.views.now).views places c.in_ok-places.ensures.firsts c.in_ok-places.ensures.viewed c.loop-k.k all c.loop-k.invariant
