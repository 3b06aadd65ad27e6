-- The first number of an ascending list that has a property is the least one.
use Rattle.std.proofs.Common.{◌≡◌, ℕ, zero, suc, ◌+◌, ◌-◌, ◌<◌, ◌≤◌, inl, inr, List, [], ◌∷◌, length, refl, sym, ap, subst, ⊎_elim, arith}
use Rattle.std.specs.Prelude.{slice_index, slice_index_or, Option, Some, None, MatchOption}
use Rattle.std.specs.List.{range_with_len}
use Rattle.std.specs.List.Sorted.{IsStrictlyIncreasing}
use Rattle.std.proofs.lemmas.Bool.{cases_eq, cases_lt}
use Rattle.policy_model.specs.Lists.{numbers_below}
use Rattle.policy_model.proofs.AllWalks.{IsIn}
use Rattle.shadow_checks.specs.Shadows.{NoneBefore, IsFirstOf}

pub match_weaker : {A : Type 0} (P Q : Type 0) (R S : A → Type 0) (o : Option A) → (P → Q) → ((x : A) → R x → S x) → MatchOption o P R → MatchOption o Q S
match_weaker P Q R S None f g h = f h
match_weaker P Q R S (Some x) f g h = g x h

pub none_of : {A : Type 0} (P : Type 0) (Q : A → Type 0) (o : Option A) → ((x : A) → o ≡ Some x → ⊥) → MatchOption o P Q → P
none_of P Q None not h = h
none_of P Q (Some x) not h = absurd (not x refl)

pub not_some : {A : Type 0} (o : Option A) → ((x : A) → o ≡ Some x → ⊥) → o ≡ None
not_some None h = refl
not_some (Some x) h = absurd (h x refl)

pub some_of : {A : Type 0} (P : Type 0) (Q : A → Type 0) (o : Option A) (x : A) → o ≡ Some x → MatchOption o P Q → Q x
some_of P Q None x e h = cc e
some_of P Q (Some y) x e h = let same : y ≡ x = cc e in subst Q same h

pub none_more : (P : ℕ → Type 0) (xs : List ℕ) (k : ℕ) → NoneBefore P xs k → (P (slice_index_or xs k 0) → ⊥) → NoneBefore P xs (k + 1)
none_more P xs k old here j low h = ⊎_elim (λ e. here (subst (λ i. P (slice_index_or xs i 0)) e h)) (λ ne. old j (omega (arith, low, ne)) h) (cases_eq j k)

-- ---- numbers ascend

range_from : (a n k : ℕ) → k < n → slice_index (range_with_len a n) k ≡ a + k
range_from a zero k h = absurd (omega (arith, h))
range_from a (suc n) zero h = omega arith
range_from a (suc n) (suc k) h = let e = range_from (a + 1) n k (omega (arith, h)) in omega (arith, e)

range_long : (a n : ℕ) → length (range_with_len a n) ≡ n
range_long a zero = refl
range_long a (suc n) = ap suc (range_long (a + 1) n)

pub numbers_rise : (n : ℕ) → IsStrictlyIncreasing (numbers_below n)
numbers_rise n k h =
    let long = range_long 0 n in
    let a = range_from 0 n k (omega (arith, h, long)) in
    let b = range_from 0 n (k + 1) (omega (arith, h, long)) in
    omega (arith, a, b)

module _ (xs : List ℕ) (up : IsStrictlyIncreasing xs) where
  rises : (gap j k : ℕ) → k ≡ j + gap → k < length xs → slice_index xs j ≤ slice_index xs k
  rises zero j k e h = let same = ap (slice_index xs) e in let z = ap (slice_index xs) (let f : j + 0 ≡ j = omega arith in f) in omega (arith, same, z)
  rises (suc gap) j k e h =
      let last : j + gap + 1 ≡ k = omega (arith, e) in
      let step = up (j + gap) (omega (arith, last, h)) in
      let top = ap (slice_index xs) last in
      let before = rises gap j (j + gap) refl (omega (arith, last, h)) in
      omega (arith, before, step, top)

  not_lower : (j k : ℕ) → j ≤ k → k < length xs → slice_index xs j ≤ slice_index xs k
  not_lower j k low h = rises (k - j) j k (omega (arith, low)) h

pub record IsAt (xs : List ℕ) (n : ℕ) : Type 0 where
  pub place : ℕ
  pub below : place < length xs
  pub is : slice_index_or xs place 0 ≡ n

pub place_of : (xs : List ℕ) (n : ℕ) → IsIn n xs → IsAt xs n
place_of [] n h = absurd h
place_of (x ∷ xs) n (inl e) = record { place = 0; below = omega arith; is = sym e }
place_of (x ∷ xs) n (inr h) = let w = place_of xs n h in record { place = suc w.place; below = omega (arith, w.below); is = w.is }

pub none_in : (P : ℕ → Type 0) (xs : List ℕ) (count n : ℕ) → count ≡ length xs → NoneBefore P xs count → IsIn n xs → P n → ⊥
none_in P xs count n long none there h = let w = place_of xs n there in none w.place (omega (arith, w.below, long)) (subst P (sym w.is) h)

pub first_least : (P : ℕ → Type 0) (xs : List ℕ) (x n : ℕ) → IsStrictlyIncreasing xs → IsFirstOf P xs x → IsIn n xs → P n → x ≤ n
first_least P xs x n up first there h =
    let w = place_of xs n there in
    let late : first.at ≤ w.place = ⊎_elim (λ low. absurd (first.before w.place low (subst P (sym w.is) h))) (λ high. high) (cases_lt w.place first.at) in
    let le = not_lower xs up first.at w.place late w.below in
    omega (arith, le, first.is, w.is)
