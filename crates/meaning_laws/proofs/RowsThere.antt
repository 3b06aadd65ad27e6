-- The tables of views and of areas: for each zone the tags that reach it, for each area the zones that it reaches.
use Rattle.std.proofs.Common.{◌≡◌, ℕ, zero, suc, ◌+◌, ◌<◌, ◌≤◌, ◌⊎◌, inl, inr, Bool, true, false, not, cond, ◌&&◌, List, [], ◌∷◌, length, map, refl, sym, ap, subst, ◌∙◌, ⊎_elim, arith}
use Rattle.std.specs.Prelude.{◌==◌, max, fold, filter, slice_index}
use Rattle.std.specs.List.{list_any, list_all, range_with_len}
use Rattle.std.specs.List.Sorted.{IsStrictlyIncreasing}
use Rattle.std.proofs.lemmas.List.Kept.{IsStrictlyIncreasing-filter}
use Rattle.std.proofs.lemmas.Bool.{and_parts, and_from, or_cases, eqb-true, eq-eqb, false≢true}
use Rattle.policy_model.specs.Lists.{has, numbers_below}
use Rattle.policy_model.specs.Policy.{Policy, iface_of, area_of, router_at, is_managed, all_ifaces}
use Rattle.policy_model.specs.Paths.{Crossing, leads, is_through_router, crosses_managed}
use Rattle.policy_model.specs.Zones.{Site, zone_at, zone_count}
use Rattle.policy_model.specs.Tags.{AreViews, IsActive, binds, keeps_tag, zone_view}
use Rattle.policy_model.specs.Objects.{AreAreas, IsInArea, inside_borders, start_of, area_zones}
use Rattle.policy_model.proofs.AllWalks.{IsIn, in_filter, in_map, in_numbers, in_flat_map}
use Rattle.policy_model.proofs.Tested.{crossing_below}
use Rattle.meaning_laws.specs.Tables.{reaches, number_past, is_in_force, bound_tags, tags_in_force, views_of, is_in_area, zones_in_area, areas_of}
use Rattle.meaning_laws.proofs.Reached.{reached, leads_there}
use Rattle.meaning_laws.proofs.Numbered.{some_of, mapped, mapped_long}

-- ---- words

some_in : {A : Type 0} (test : A → Bool) (xs : List A) → list_any test xs ≡ true → (x : A) × IsIn x xs × (test x ≡ true)
some_in test [] h = absurd (false≢true h)
some_in test (x ∷ xs) h = ⊎_elim (λ t. (x, inl refl, t)) (λ t. let w = some_in test xs t in (w.0, inr w.1, w.2)) (or_cases (test x) (list_any test xs) h)

kept : {A : Type 0} (test : A → Bool) (x y : A) (rest : List A) (b : Bool) → test y ≡ b → (IsIn x rest → test x ≡ true) → IsIn x (cond b (y ∷ rest) rest) → test x ≡ true
kept test x y rest true e later (inl h) = ap test h ∙ e
kept test x y rest true e later (inr h) = later h
kept test x y rest false e later h = later h

passes_in : {A : Type 0} (test : A → Bool) (x : A) (xs : List A) → IsIn x (filter test xs) → test x ≡ true
passes_in test x [] h = absurd h
passes_in test x (y ∷ ys) h = kept test x y (filter test ys) (test y) refl (passes_in test x ys) h

range_from : (a n : ℕ) → (k : ℕ) → k < n → slice_index (range_with_len a n) k ≡ a + k
range_from a zero k h = absurd (omega arith)
range_from a (suc n) zero h = omega arith
range_from a (suc n) (suc k) h = let e = range_from (a + 1) n k (omega arith) in omega (arith, e)

range_long : (a n : ℕ) → length (range_with_len a n) ≡ n
range_long a zero = refl
range_long a (suc n) = ap suc (range_long (a + 1) n)

numbers_rise : (n : ℕ) → IsStrictlyIncreasing (numbers_below n)
numbers_rise n k h =
    let long = range_long 0 n in
    let a = range_from 0 n k (omega (arith, h, long)) in
    let b = range_from 0 n (k + 1) (omega (arith, h, long)) in
    omega (arith, a, b)

above_start : (xs : List ℕ) (a : ℕ) → a ≤ fold max a xs
above_start [] a = omega arith
above_start (x ∷ xs) a = let h = above_start xs (max a x) in omega (arith, h)

below_top : (xs : List ℕ) (a x : ℕ) → IsIn x xs → x < fold max a (map suc xs)
below_top [] a x h = absurd h
below_top (y ∷ ys) a x (inl e) = let g = above_start (map suc ys) (max a (suc y)) in omega (arith, g, e)
below_top (y ∷ ys) a x (inr h) = below_top ys (max a (suc y)) x h

is_in : (xs : List ℕ) (n : ℕ) → has xs n ≡ true → IsIn n xs
is_in [] n h = absurd (false≢true h)
is_in (x ∷ xs) n h = ⊎_elim (λ e. inl (sym (eqb-true x n e))) (λ g. inr (is_in xs n g)) (or_cases (x == n) (has xs n) h)

has_it : (xs : List ℕ) (n : ℕ) → IsIn n xs → has xs n ≡ true
has_it xs n h = some_of (λ x. x == n) n xs h (eq-eqb n n refl)

-- a row of the numbers that pass
abbrev row : (ℕ → Bool) → ℕ → List ℕ
row test top = filter test (numbers_below top)

in_row : (test : ℕ → Bool) (top n : ℕ) → n < top → test n ≡ true → has (row test top) n ≡ true
in_row test top n below h = has_it (row test top) n (in_filter test n (numbers_below top) (in_numbers top n below) h)

from_row : (test : ℕ → Bool) (top n : ℕ) → has (row test top) n ≡ true → test n ≡ true
from_row test top n h = passes_in test n (numbers_below top) (is_in (row test top) n h)

-- ---- views

module _ (s : Site) where
  abbrev p : Policy
  p = s.policy

  pub keeps_through : (tag : ℕ) (c : Crossing) → keeps_tag p tag c ≡ true → is_through_router p c ≡ true
  keeps_through tag c h =
      let a = and_parts (crosses_managed p c && not (binds p c.enter tag)) (not (binds p c.leave tag)) h in
      let b = and_parts (crosses_managed p c) (not (binds p c.enter tag)) a.0 in
      (and_parts (is_through_router p c) (is_managed p (router_at p c.enter)) b.0).0

  pub active_if : (z tag : ℕ) → IsActive s tag z → is_in_force s z tag ≡ true
  active_if z tag a =
      some_of (λ i. binds p i tag && reaches p (keeps_tag p tag) (zone_at s) (zone_at s i) z) a.iface (all_ifaces p) (in_numbers (length p.ifaces) a.iface a.there)
      (and_from (binds p a.iface tag) (reaches p (keeps_tag p tag) (zone_at s) (zone_at s a.iface) z) a.bound
      (reached p (keeps_tag p tag) (keeps_through tag) (zone_at s) (zone_at s a.iface) z a.chain))

  from_numbers : (a n k : ℕ) → IsIn k (range_with_len a n) → k < a + n
  from_numbers a zero k h = absurd h
  from_numbers a (suc n) k (inl e) = omega (arith, e)
  from_numbers a (suc n) k (inr h) = let g = from_numbers (a + 1) n k h in omega (arith, g)

  pub if_active : (z tag : ℕ) → is_in_force s z tag ≡ true → IsActive s tag z
  if_active z tag h =
      let w = some_in (λ i. binds p i tag && reaches p (keeps_tag p tag) (zone_at s) (zone_at s i) z) (all_ifaces p) h in
      let i : ℕ = w.0 in
      let a = and_parts (binds p i tag) (reaches p (keeps_tag p tag) (zone_at s) (zone_at s i) z) w.2 in
      let below = from_numbers 0 (length p.ifaces) i w.1 in
      record { iface = i; there = omega (arith, below); bound = a.0; chain = leads_there p (keeps_tag p tag) (keeps_through tag) (zone_at s) (zone_at s i) z a.1 }

  active_below : (z tag : ℕ) → IsActive s tag z → tag < number_past (bound_tags p)
  active_below z tag a =
      below_top (bound_tags p) 0 tag (in_flat_map (λ i. (iface_of p i).binds) a.iface tag (all_ifaces p) (in_numbers (length p.ifaces) a.iface a.there) (is_in (iface_of p a.iface).binds tag a.bound))

  its_row : (z : ℕ) → z < zone_count s → zone_view (views_of s) z ≡ tags_in_force s z
  its_row z h = mapped (tags_in_force s) 0 (zone_count s) z [] h ∙ (let e : 0 + z ≡ z = omega arith in ap (tags_in_force s) e)

  abbrev top : ℕ
  top = number_past (bound_tags p)

  pub views_found : AreViews s (views_of s)
  views_found = record {
    each = mapped_long (tags_in_force s) 0 (zone_count s);
    ascending = λ z h. subst IsStrictlyIncreasing (sym (its_row z h)) (IsStrictlyIncreasing-filter (is_in_force s z) (numbers_below top) (numbers_rise top));
    active = λ z tag h. (
      λ seen. if_active z tag (from_row (is_in_force s z) top tag (subst (λ (view : List ℕ). has view tag ≡ true) (its_row z h) seen)),
      λ a. subst (λ (view : List ℕ). has view tag ≡ true) (sym (its_row z h)) (in_row (is_in_force s z) top tag (active_below z tag a) (active_if z tag a)),
    );
    inner = refl;
  }

  -- ---- areas

  abbrev inside : ℕ → Crossing → Bool
  inside k c = inside_borders p (area_of p k).borders c

  inside_through : (k : ℕ) (c : Crossing) → inside k c ≡ true → is_through_router p c ≡ true
  inside_through k c h =
      let borders = (area_of p k).borders in
      let a = and_parts (crosses_managed p c && not (has borders c.enter)) (not (has borders c.leave)) h in
      let b = and_parts (crosses_managed p c) (not (has borders c.enter)) a.0 in
      (and_parts (is_through_router p c) (is_managed p (router_at p c.enter)) b.0).0

  -- past the area's start and all interfaces' zones
  abbrev places : ℕ → List ℕ
  places k = start_of s k ∷ map (zone_at s) (all_ifaces p)

  abbrev top_of : ℕ → ℕ
  top_of k = number_past (places k)

  ends_at : (k from to : ℕ) (path : List Crossing) → list_all (inside k) path ≡ true → leads (zone_at s) from path to ≡ true → (from ≡ to) ⊎ IsIn to (map (zone_at s) (all_ifaces p))
  ends_at k from to [] all ends = inl (eqb-true from to ends)
  ends_at k from to (c ∷ path) all ends =
      let a = and_parts (inside k c) (list_all (inside k) path) all in
      let w = and_parts (zone_at s c.enter == from) (leads (zone_at s) (zone_at s c.leave) path to) ends in
      let below = crossing_below p c (inside_through k c a.0) in
      ⊎_elim (λ e. inr (subst (λ (x : ℕ). IsIn x (map (zone_at s) (all_ifaces p))) e (in_map (zone_at s) c.leave (all_ifaces p) (in_numbers (length p.ifaces) c.leave below.1))))
      (λ h. inr h) (ends_at k (zone_at s c.leave) to path a.1 w.1)

  of_below : (k z : ℕ) → IsInArea s k z → z < top_of k
  of_below k z r =
      below_top (places k) 0 z (⊎_elim (λ e. inl (sym e)) (λ h. inr h) (ends_at k (start_of s k) z r.path r.crossings r.ends))

  its_zones : (k : ℕ) → k < length (areas_of s) → area_zones (areas_of s) k ≡ zones_in_area s k
  its_zones k h =
      let long = mapped_long (zones_in_area s) 0 (length p.areas) in
      mapped (zones_in_area s) 0 (length p.areas) k [] (omega (arith, h, long)) ∙ (let e : 0 + k ≡ k = omega arith in ap (zones_in_area s) e)

  pub areas_found : AreAreas s (areas_of s)
  areas_found = record {
    each = mapped_long (zones_in_area s) 0 (length p.areas);
    ascending = λ k h. subst IsStrictlyIncreasing (sym (its_zones k h)) (IsStrictlyIncreasing-filter (is_in_area s k) (numbers_below (top_of k)) (numbers_rise (top_of k)));
    zones = λ k z h. (
      λ seen. leads_there p (inside k) (inside_through k) (zone_at s) (start_of s k) z (from_row (is_in_area s k) (top_of k) z (subst (λ (r : List ℕ). has r z ≡ true) (its_zones k h) seen)),
      λ r. subst (λ (q : List ℕ). has q z ≡ true) (sym (its_zones k h)) (in_row (is_in_area s k) (top_of k) z (of_below k z r) (reached p (inside k) (inside_through k) (zone_at s) (start_of s k) z r)),
    );
  }
