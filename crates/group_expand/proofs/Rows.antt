-- Rows of numbers that pass a test, and rows that are looked at one by one.
use Rattle.std.proofs.Common.{◌≡◌, ◌≢◌, ℕ, zero, suc, ◌+◌, ◌<◌, ◌≤◌, Bool, true, false, cond, List, [], ◌∷◌, length, drop, refl, sym, ap, subst, ◌∙◌, ⊎_elim, arith, slice_index, slice_index_or}
use Rattle.std.specs.Prelude.{filter}
use Rattle.std.specs.List.{range_with_len}
use Rattle.std.proofs.lemmas.Bool.{cases_eq, false≢true}
use Rattle.std.proofs.Math.ListN.{get_or-map, length-map}
use Rattle.spoc_base.specs.declared.ids.IfId.{IfId}
use Rattle.policy_model.specs.Lists.{numbers_below}
use Rattle.group_expand.specs.Seen.{iface_numbers}

module _ (test : ℕ → Bool) where
  passes_by : (a bound : ℕ) (rest : List ℕ) → ((k : ℕ) → k < length rest → (slice_index rest k < bound) × (test (slice_index rest k) ≡ true)) → a < bound →
      (k : ℕ) (b : Bool) → test a ≡ b → k < length (cond b (a ∷ rest) rest) →
      (slice_index (cond b (a ∷ rest) rest) k < bound) × (test (slice_index (cond b (a ∷ rest) rest) k) ≡ true)
  passes_by a bound rest others low zero true e h = (low, e)
  passes_by a bound rest others low (suc k) true e h = others k (omega (arith, h))
  passes_by a bound rest others low k false e h = others k h

  -- what stands in the list passes
  passes : (a n k : ℕ) → k < length (filter test (range_with_len a n)) →
      (slice_index (filter test (range_with_len a n)) k < a + n) × (test (slice_index (filter test (range_with_len a n)) k) ≡ true)
  passes a zero k h = absurd (omega (arith, h))
  passes a (suc n) k h =
      passes_by a (a + suc n) (filter test (range_with_len (a + 1) n)) (λ j hj. let w = passes (a + 1) n j hj in (omega (arith, w.0), w.1)) (omega arith) k (test a) refl h

  pub passed : (n k : ℕ) → k < length (filter test (numbers_below n)) →
      (slice_index (filter test (numbers_below n)) k < n) × (test (slice_index (filter test (numbers_below n)) k) ≡ true)
  passed n k h = let w = passes 0 n k h in (omega (arith, w.0), w.1)

  abbrev IsAt : List ℕ → ℕ → Type 0
  IsAt xs i = (k : ℕ) × (k < length xs) × (slice_index xs k ≡ i)

  stands_by : (a i : ℕ) (rest : List ℕ) → (a ≢ i → IsAt rest i) → (b : Bool) → test a ≡ b → test i ≡ true → IsAt (cond b (a ∷ rest) rest) i
  stands_by a i rest others true e h =
      ⊎_elim (λ same. (0, omega arith, same)) (λ other. let w = others other in (suc w.0, omega (arith, w.1), w.2)) (cases_eq a i)
  stands_by a i rest others false e h = others (λ same. false≢true (sym e ∙ (ap test same ∙ h)))

  -- what passes stands in the list
  stands : (a n i : ℕ) → a ≤ i → i < a + n → test i ≡ true → IsAt (filter test (range_with_len a n)) i
  stands a zero i low high e = absurd (omega (arith, low, high))
  stands a (suc n) i low high e =
      stands_by a i (filter test (range_with_len (a + 1) n)) (λ other. stands (a + 1) n i (omega (arith, low, other)) (omega (arith, high)) e) (test a) refl e

  pub standing : (n i : ℕ) → i < n → test i ≡ true → (k : ℕ) × (k < length (filter test (numbers_below n))) × (slice_index (filter test (numbers_below n)) k ≡ i)
  standing n i below e = stands 0 n i (omega arith) (omega (arith, below)) e

-- the number at a place of a row
pub at_number : (ids : List IfId) (k : ℕ) → (slice_index_or ids k (record { 0 = 0 })).0 ≡ slice_index (iface_numbers ids) k
at_number ids k = sym (get_or-map (λ (i : IfId). i.0) ids k (record { 0 = 0 }))

-- the interface at a place of a row is there, and passes
pub in_row : (test : ℕ → Bool) (n : ℕ) (ids : List IfId) → iface_numbers ids ≡ filter test (numbers_below n) → (k : ℕ) → k < length ids →
    ((slice_index_or ids k (record { 0 = 0 })).0 < n) × (test (slice_index_or ids k (record { 0 = 0 })).0 ≡ true)
in_row test n ids e k h =
    let long : length (iface_numbers ids) ≡ length ids = length-map ids (λ (i : IfId). i.0) in
    let below : k < length (filter test (numbers_below n)) = subst (λ (xs : List ℕ). k < length xs) e (omega (arith, h, long)) in
    let w = passed test n k below in
    let at : (slice_index_or ids k (record { 0 = 0 })).0 ≡ slice_index (filter test (numbers_below n)) k = at_number ids k ∙ ap (λ (xs : List ℕ). slice_index xs k) e in
    (subst (λ (x : ℕ). x < n) (sym at) w.0, subst (λ (x : ℕ). test x ≡ true) (sym at) w.1)

-- what is left of a row
pub left_of : (xs : List ℕ) (k : ℕ) → k < length xs → drop k xs ≡ slice_index xs k ∷ drop (k + 1) xs
left_of [] k h = absurd (omega (arith, h))
left_of (x ∷ xs) zero h = refl
left_of (x ∷ xs) (suc k) h =
    let e : suc k + 1 ≡ suc (k + 1) = omega arith in
    left_of xs k (omega (arith, h)) ∙ ap (λ (m : ℕ). slice_index xs k ∷ drop m (x ∷ xs)) (sym e)

pub none_left : (xs : List ℕ) (k : ℕ) → length xs ≤ k → drop k xs ≡ []
none_left [] zero h = refl
none_left [] (suc k) h = refl
none_left (x ∷ xs) zero h = absurd (omega (arith, h))
none_left (x ∷ xs) (suc k) h = none_left xs k (omega (arith, h))
