-- The first view that has a shadow, told by the views of the first places.
use Rattle.std.proofs.Common.{◌≡◌, ℕ, ◌+◌, ◌<◌, ◌≤◌, List, [], length, map, take, sym, ap, subst, ◌∙◌, ⊎_elim, arith}
use Rattle.std.specs.Prelude.{slice_index_or, IsTrue}
use Rattle.std.specs.List.{All}
use Rattle.std.proofs.lemmas.Bool.{cases_lt}
use Rattle.std.proofs.lemmas.List.{length-map, length-take, get_or-map, get_or-take, get_or_default, take_more}
use Rattle.std.proofs.lemmas.List.Elements.{All-push, All-get_or}
use Rattle.policy_model.specs.Policy.{Policy}
use Rattle.policy_model.specs.Tags.{Views}
use Rattle.policy_model.specs.Faults.{all_views}
use Rattle.policy_model.specs.FirstFault.{ViewPlace, view_at}
use Rattle.nat_view.specs.Fails.{place_seen, place_number}
use Rattle.nat_view.specs.Firsts.{AreFirsts}
use Rattle.nat_view.specs.Seen.{has_view}
use Rattle.nat_view.specs.declared.fail.ViewAt.{ViewAt}
use Rattle.nat_view.specs.declared.fail.ViewAt.TheVariants as at
use Rattle.nat_view.proofs.Meeting.{seen_number}
use Rattle.nat_view.proofs.Placing.{number_of, row_of_place, number_below, lower_number}
use Rattle.shadow_checks.specs.Holders.{HasNoneHere, IsFirstHere}
use Rattle.shadow_checks.specs.Sightings.{HaveNoPlaces, HasNone, IsFirst}
use Rattle.shadow_checks.specs.declared.here.Holder.{Holder}

module _ (p : Policy) (v : Views) (places : List ViewAt) where
  pub none_more : (k : ℕ) (d : ViewAt) → k < length places → HasNoneHere p (view_at v (place_seen (slice_index_or places k d))) → HaveNoPlaces p v (take k places) → HaveNoPlaces p v (take (k + 1) places)
  none_more k d below none old =
      subst (HaveNoPlaces p v) (sym (take_more places k d below)) (All-push (λ one. HasNoneHere p (view_at v (place_seen one))) (take k places) (slice_index_or places k d) old none)

  abbrev numbers : List ℕ
  numbers = map (place_number (length v.zones)) places

  no_place : ViewAt
  no_place = at.Zone (record { 0 = 0 })

  number_at : (k : ℕ) (d : ViewAt) → k < length places → slice_index_or numbers k 0 ≡ number_of v (place_seen (slice_index_or places k d))
  number_at k d below = get_or-map (place_number (length v.zones)) places k d 0 below ∙ sym (seen_number v (slice_index_or places k d))

  module _ (firsts : AreFirsts (all_views v) numbers) (viewed : All (λ one. IsTrue (has_view v (place_seen one))) places) where
    -- a view is that of a first place, which isn't behind it
    covered : (k : ℕ) → HaveNoPlaces p v (take k places) → (other : ViewPlace) → IsTrue (has_view v other) → ((i : ℕ) → i < length places → slice_index_or numbers i 0 ≤ number_of v other → i < k) → HasNoneHere p (view_at v other)
    covered k none other h bound =
        let n = number_of v other in
        let w = firsts.each n (number_below v other h) in
        let before = w.before in
        let i = w.listed.0 in
        let long = length-map places (place_number (length v.zones)) in
        let lt = w.listed.1 in
        let low : i < length places = omega (arith, lt, long) in
        let is : slice_index_or numbers i 0 ≡ w.place = get_or_default numbers i 0 w.place lt ∙ w.listed.2 in
        let inside : i < k = bound i low (omega (arith, is, before)) in
        let one = slice_index_or places i no_place in
        let taken = length-take k places in
        let here : HasNoneHere p (view_at v (place_seen one)) =
        subst (λ (x : ViewAt). HasNoneHere p (view_at v (place_seen x))) (get_or-take k places i no_place inside)
        (All-get_or (λ x. HasNoneHere p (view_at v (place_seen x))) (take k places) i no_place (omega (arith, inside, low, taken)) none) in
        let same : view_at v (place_seen one) ≡ view_at v other =
        sym (row_of_place v (place_seen one) (All-get_or (λ x. IsTrue (has_view v (place_seen x))) places i no_place low viewed))
        ∙ (ap (λ j. slice_index_or (all_views v) j []) (sym (number_at i no_place low) ∙ is) ∙ (w.same ∙ row_of_place v other h)) in
        subst (HasNoneHere p) same here

    pub first_at : (k : ℕ) (d : ViewAt) (m : ℕ) (holder : Holder) → k < length places → IsFirstHere p (view_at v (place_seen (slice_index_or places k d))) holder m → HaveNoPlaces p v (take k places) →
        IsFirst p v (place_seen (slice_index_or places k d)) holder m
    first_at k d m holder below here none =
        record {
          viewed = All-get_or (λ one. IsTrue (has_view v (place_seen one))) places k d below viewed;
          here = here;
          before = λ other h lower. covered k none other h (λ i low le. earlier i low (lower_number v other (place_seen (slice_index_or places k d)) h lower) le);
        }
      where
        earlier : {n : ℕ} (i : ℕ) → i < length places → n < number_of v (place_seen (slice_index_or places k d)) → slice_index_or numbers i 0 ≤ n → i < k
        earlier i low lt le =
            let e = number_at k d below in
            let long = length-map places (place_number (length v.zones)) in
            ⊎_elim (λ (less : i < k). less)
            (λ (ge : k ≤ i).
            ⊎_elim (λ (less : k < i). let rises = firsts.order k i 0 less (omega (arith, low, long)) in absurd (let z : ⊥ = omega (arith, rises, lt, le, e) in z))
            (λ (same : i ≤ k). let at_k : i ≡ k = omega (arith, ge, same) in let f = ap (λ j. slice_index_or numbers j 0) at_k in absurd (let z : ⊥ = omega (arith, f, lt, le, e) in z)) (cases_lt k i))
            (cases_lt i k)

    pub none_seen : (k : ℕ) → length places ≤ k → HaveNoPlaces p v (take k places) → HasNone p v
    none_seen k all none at h = covered k none at h (λ i low le. omega (arith, low, all))
