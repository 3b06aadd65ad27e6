-- A policy has one table of views and one of areas, so that it has one meaning.
use Rattle.std.proofs.Common.{◌≡◌, ℕ, zero, suc, ◌<◌, inl, inr, true, List, [], ◌∷◌, length, map, refl, sym, ap, subst, ◌∙◌, ⊎_elim, arith}
use Rattle.std.specs.Prelude.{◌==◌, slice_index_or}
use Rattle.std.specs.List.{AllPairs}
use Rattle.std.specs.List.Sorted.{IsStrictlyIncreasing}
use Rattle.std.proofs.lemmas.List.Kept.{AllPairs-from_increasing}
use Rattle.std.proofs.lemmas.Bool.{or_cases, or_left, or_right, eqb-true, eq-eqb, false≢true}
use Rattle.policy_model.specs.Lists.{has}
use Rattle.policy_model.specs.Policy.{Policy, all_routers}
use Rattle.policy_model.specs.Zones.{Site, IsSite, AreZones}
use Rattle.policy_model.specs.Tags.{Views, AreViews, zone_view, inner_tags}
use Rattle.policy_model.specs.Objects.{AreAreas, area_zones}
use Rattle.policy_model.specs.Headline.{Meaning, IsMeaning}
use Rattle.policy_model.proofs.AllWalks.{IsIn}
use Rattle.policy_model.proofs.OneTable.{one_table}

-- ---- ascending lists with the same numbers

-- each number is below all later ones
abbrev Rises : List ℕ → Type 0
Rises [] = Unit {0}
Rises (x ∷ xs) = ((y : ℕ) → IsIn y xs → x < y) × Rises xs

at_place : (y : ℕ) (xs : List ℕ) → IsIn y xs → (j : ℕ) × (j < length xs) × (y ≡ slice_index_or xs j 0)
at_place y [] h = absurd h
at_place y (x ∷ xs) (inl e) = (zero, omega arith, e)
at_place y (x ∷ xs) (inr h) = let w = at_place y xs h in (suc w.0, omega (arith, w.1), w.2)

rises : (xs : List ℕ) → AllPairs (λ x y. x < y) xs → Rises xs
rises [] a = tt
rises (x ∷ xs) a = (
  λ y h. let w = at_place y xs h in subst (λ (k : ℕ). x < k) (sym w.2) (a zero (suc w.0) 0 (omega arith) (omega (arith, w.1))),
  rises xs (λ i j d less below. a (suc i) (suc j) d (omega arith) (omega arith)),
)

rising_equal : (xs ys : List ℕ) → Rises xs → Rises ys → ((n : ℕ) → IsIn n xs → IsIn n ys) → ((n : ℕ) → IsIn n ys → IsIn n xs) → xs ≡ ys
rising_equal [] [] a b f g = refl
rising_equal [] (y ∷ ys) a b f g = absurd (g y (inl refl))
rising_equal (x ∷ xs) [] a b f g = absurd (f x (inl refl))
rising_equal (x ∷ xs) (y ∷ ys) a b f g =
    let e : x ≡ y = ⊎_elim (λ q. q) (λ i. ⊎_elim (λ q. sym q) (λ j. absurd (let low = a.0 y j in let high = b.0 x i in omega (arith, low, high))) (g y (inl refl))) (f x (inl refl)) in
    ap (λ k. k ∷ xs) e
    ∙ ap (λ zs. y ∷ zs) (rising_equal xs ys a.1 b.1
    (λ n i. ⊎_elim (λ q. absurd (let low = a.0 n i in omega (arith, low, q, e))) (λ j. j) (f n (inr i)))
    (λ n i. ⊎_elim (λ q. absurd (let low = b.0 n i in omega (arith, low, q, e))) (λ j. j) (g n (inr i))))

has_it : (xs : List ℕ) (n : ℕ) → IsIn n xs → has xs n ≡ true
has_it [] n h = absurd h
has_it (x ∷ xs) n (inl e) = or_left (x == n) (has xs n) (eq-eqb x n (sym e))
has_it (x ∷ xs) n (inr h) = or_right (x == n) (has xs n) (has_it xs n h)

is_in : (xs : List ℕ) (n : ℕ) → has xs n ≡ true → IsIn n xs
is_in [] n h = absurd (false≢true h)
is_in (x ∷ xs) n h = ⊎_elim (λ e. inl (sym (eqb-true x n e))) (λ g. inr (is_in xs n g)) (or_cases (x == n) (has xs n) h)

ascending_equal : (xs ys : List ℕ) → IsStrictlyIncreasing xs → IsStrictlyIncreasing ys → ((n : ℕ) → has xs n ≡ true → has ys n ≡ true) →
    ((n : ℕ) → has ys n ≡ true → has xs n ≡ true) → xs ≡ ys
ascending_equal xs ys a b f g =
    rising_equal xs ys (rises xs (AllPairs-from_increasing xs a)) (rises ys (AllPairs-from_increasing ys b)) (λ n h. is_in ys n (f n (has_it xs n h))) (λ n h. is_in xs n (g n (has_it ys n h)))

-- lists with the same items at all places
same_items : {A : Type 0} (d : A) (xs ys : List A) → length xs ≡ length ys → ((k : ℕ) → k < length xs → slice_index_or xs k d ≡ slice_index_or ys k d) → xs ≡ ys
same_items d [] [] e h = refl
same_items d [] (y ∷ ys) e h = absurd (omega arith)
same_items d (x ∷ xs) [] e h = absurd (omega arith)
same_items d (x ∷ xs) (y ∷ ys) e h =
    ap (λ k. k ∷ xs) (h zero (omega arith)) ∙ ap (λ zs. y ∷ zs) (same_items d xs ys (omega arith) (λ k below. h (suc k) (omega arith)))

-- ---- tables

pub one_table_of_views : (s : Site) (v w : Views) → AreViews s v → AreViews s w → v ≡ w
one_table_of_views s v w hv hw =
    let zones : v.zones ≡ w.zones =
    same_items [] v.zones w.zones (hv.each ∙ sym hw.each)
    (λ z below. let inside : z < _ = omega (arith, hv.each) in
    ascending_equal (zone_view v z) (zone_view w z) (hv.ascending z inside) (hw.ascending z inside)
    (λ tag h. (hw.active z tag inside).1 ((hv.active z tag inside).0 h)) (λ tag h. (hv.active z tag inside).1 ((hw.active z tag inside).0 h))) in
    let inner = λ (zs : List (List ℕ)). map (inner_tags s (record { zones = zs; routers = [] })) (all_routers s.policy) in
    let routers : v.routers ≡ w.routers = hv.inner ∙ (ap inner zones ∙ sym hw.inner) in
    ap (λ (zs : List (List ℕ)). let x : Views = record { zones = zs; routers = v.routers } in x) zones
    ∙ ap (λ (rs : List (List ℕ)). let x : Views = record { zones = w.zones; routers = rs } in x) routers

pub one_table_of_areas : (s : Site) (a b : List (List ℕ)) → AreAreas s a → AreAreas s b → a ≡ b
one_table_of_areas s a b ha hb =
    same_items [] a b (ha.each ∙ sym hb.each)
    (λ k below. let there : k < length b = omega (arith, ha.each, hb.each) in
    ascending_equal (area_zones a k) (area_zones b k) (ha.ascending k below) (hb.ascending k there)
    (λ z h. (hb.zones k z there).1 ((ha.zones k z below).0 h)) (λ z h. (ha.zones k z below).1 ((hb.zones k z there).0 h)))

-- ---- all of them

one_site : (s t : Site) → s.policy ≡ t.policy → IsSite s → IsSite t → s ≡ t
one_site s t e hs ht =
    let zones : s.zones ≡ t.zones = one_table t.policy s.zones t.zones (subst (λ (p : Policy). AreZones p s.zones) e hs) ht in
    ap (λ (p : Policy). let x : Site = record { policy = p; zones = s.zones } in x) e ∙ ap (λ (zs : List ℕ). let x : Site = record { policy = t.policy; zones = zs } in x) zones

pub one_meaning : (p : Policy) (m n : Meaning) → IsMeaning p m → IsMeaning p n → m ≡ n
one_meaning p m n hm hn =
    let site : m.site ≡ n.site = one_site m.site n.site (hm.policy ∙ sym hn.policy) hm.zones hn.zones in
    let views : m.views ≡ n.views = one_table_of_views n.site m.views n.views (subst (λ (s : Site). AreViews s m.views) site hm.views) hn.views in
    let areas : m.areas ≡ n.areas = one_table_of_areas n.site m.areas n.areas (subst (λ (s : Site). AreAreas s m.areas) site hm.areas) hn.areas in
    ap (λ (s : Site). let x : Meaning = record { site = s; views = m.views; areas = m.areas } in x) site
    ∙ (ap (λ (v : Views). let x : Meaning = record { site = n.site; views = v; areas = m.areas } in x) views
    ∙ ap (λ (a : List (List ℕ)). let x : Meaning = record { site = n.site; views = n.views; areas = a } in x) areas)
