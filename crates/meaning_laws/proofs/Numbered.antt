-- Numbers for the classes of an equivalence that a test decides: from 0, by the least members.
use Rattle.std.proofs.Common.{◌≡◌, ℕ, zero, suc, ◌+◌, ◌<◌, ◌≤◌, inl, inr, Bool, true, false, cond, List, [], ◌∷◌, length, map, Option, Some, refl, sym, ap, subst, ◌∙◌, ⊎_elim, arith}
use Rattle.std.specs.Prelude.{◌↔◌, ◌==◌, slice_index_or, fold, find, count_by, unwrap_or}
use Rattle.std.specs.List.{list_any, range_with_len}
use Rattle.std.proofs.lemmas.Bool.{or_left, or_right, eqb-true, eq-eqb, false≢true, cases_Bool, cases_eq, cases_order}
use Rattle.policy_model.specs.Lists.{numbers_below}
use Rattle.policy_model.proofs.AllWalks.{IsIn}

pub some_of : {A : Type 0} (test : A → Bool) (x : A) (xs : List A) → IsIn x xs → test x ≡ true → list_any test xs ≡ true
some_of test x [] h t = absurd h
some_of test x (y ∷ ys) (inl e) t = or_left (test y) (list_any test ys) (ap test (sym e) ∙ t)
some_of test x (y ∷ ys) (inr h) t = or_right (test y) (list_any test ys) (some_of test x ys h t)

-- what stands at a place of a table
pub mapped : {A : Type 0} (f : ℕ → A) (a n k : ℕ) (d : A) → k < n → slice_index_or (map f (range_with_len a n)) k d ≡ f (a + k)
mapped f a zero k d h = absurd (omega arith)
mapped f a (suc n) zero d h = let e : a ≡ a + 0 = omega arith in ap f e
mapped f a (suc n) (suc k) d h = let e : (a + 1) + k ≡ a + suc k = omega arith in mapped f (a + 1) n k d (omega arith) ∙ ap f e

pub mapped_long : {A : Type 0} (f : ℕ → A) (a n : ℕ) → length (map f (range_with_len a n)) ≡ n
mapped_long f a zero = refl
mapped_long f a (suc n) = ap suc (mapped_long f (a + 1) n)

-- the test is one of an equivalence
pub record IsEquivalence (same : ℕ → ℕ → Bool) : Type 0 where
  pub itself : (n : ℕ) → same n n ≡ true
  pub back : (n m : ℕ) → same n m ≡ true → same m n ≡ true
  pub onward : (n m k : ℕ) → same n m ≡ true → same m k ≡ true → same n k ≡ true

-- ---- the first number that passes

-- the first number of a range that passes, or else d
pub record IsFirstOr (test : ℕ → Bool) (a d k : ℕ) : Type 0 where
  pub below : k ≤ d
  pub passes : (k ≡ d → ⊥) → test k ≡ true
  pub none : (j : ℕ) → a ≤ j → j < k → test j ≡ false

first_step : (test : ℕ → Bool) (a d : ℕ) (rest : Option ℕ) → a ≤ d → IsFirstOr test (a + 1) d (unwrap_or rest d) → (b : Bool) → test a ≡ b → IsFirstOr test a d (unwrap_or (cond b (Some a) rest) d)
first_step test a d rest low later true e = record { below = low; passes = λ ne. e; none = λ j least high. absurd (omega arith) }
first_step test a d rest low later false e = record {
  below = later.below;
  passes = later.passes;
  none = λ j least high. ⊎_elim (λ h. ap test h ∙ e) (λ ne. later.none j (omega arith) high) (cases_eq j a);
}

is_first : (test : ℕ → Bool) (a n d : ℕ) → d ≡ a + n → IsFirstOr test a d (unwrap_or (find test (range_with_len a n)) d)
is_first test a zero d e = record { below = omega arith; passes = λ ne. absurd (ne refl); none = λ j low high. absurd (omega arith) }
is_first test a (suc n) d e = first_step test a d (find test (range_with_len (a + 1) n)) (omega arith) (is_first test (a + 1) n d (omega arith)) (test a) refl

-- ---- how many of the numbers pass

abbrev one_if : Bool → ℕ
one_if b = cond b 1 0

-- a fold over one number more
fold_next : {B : Type 0} (f : B → ℕ → B) (b : B) (a n : ℕ) → fold f b (range_with_len a (suc n)) ≡ f (fold f b (range_with_len a n)) (a + n)
fold_next f b a zero = let e : a ≡ a + 0 = omega arith in ap (f b) e
fold_next f b a (suc n) = let e : (a + 1) + n ≡ a + suc n = omega arith in fold_next f (f b a) (a + 1) n ∙ ap (f (fold f (f b a) (range_with_len (a + 1) n))) e

module _ (test : ℕ → Bool) where
  -- how many below k pass
  abbrev count : ℕ → ℕ
  count k = count_by test (numbers_below k)

  next : (k : ℕ) (b : Bool) → test k ≡ b → count (suc k) ≡ count k + one_if b
  next k b h =
      let z : 0 + k ≡ k = omega arith in
      fold_next (λ (x j : ℕ). x + one_if (test j)) 0 0 k ∙ ap (λ (x : ℕ). count k + x) (ap (λ (j : ℕ). one_if (test j)) z ∙ ap one_if h)

  one_more : (k : ℕ) → test k ≡ true → count (suc k) ≡ count k + 1
  one_more k h = next k true h

  no_more : (k : ℕ) → test k ≡ false → count (suc k) ≡ count k
  no_more k h = let e = next k false h in omega (arith, e)

  step_up : (k : ℕ) → count k ≤ count (suc k)
  step_up k = ⊎_elim (λ t. let e = one_more k t in omega (arith, e)) (λ f. let e = no_more k f in omega (arith, e)) (cases_Bool (test k))

  grows : (k m : ℕ) → k ≤ m → count k ≤ count m
  grows k zero h = let e : k ≡ 0 = omega arith in let same = ap count e in omega (arith, same)
  grows k (suc m) h =
      ⊎_elim (λ (e : k ≡ suc m). let same = ap count e in omega (arith, same))
      (λ ne. let ih = grows k m (omega arith) in let up = step_up m in omega (arith, ih, up))
      (cases_eq k (suc m))

  -- one that passes is counted from the next number on
  counted : (k m : ℕ) → test k ≡ true → k < m → count k < count m
  counted k m h less =
      let up = grows (suc k) m less in
      let one = one_more k h in
      omega (arith, up, one)

  -- each count is reached at one that passes
  reached_at : (k z : ℕ) → z < count k → (m : ℕ) × (m < k) × (test m ≡ true) × (count m ≡ z)
  reached_at zero z h = absurd (omega (arith, h))
  reached_at (suc k) z h =
      ⊎_elim
      (λ t. let e = one_more k t in
      ⊎_elim (λ (q : z ≡ count k). (k, omega arith, t, sym q)) (λ ne. let w = reached_at k z (omega (arith, e, ne, h)) in (w.0, omega (arith, w.1), w.2, w.3)) (cases_eq z (count k)))
      (λ f. let e = no_more k f in let w = reached_at k z (omega (arith, e, h)) in (w.0, omega (arith, w.1), w.2, w.3))
      (cases_Bool (test k))

-- ---- classes

module _ (same : ℕ → ℕ → Bool) where
  -- the least number of the class
  abbrev pub least : ℕ → ℕ
  least n = unwrap_or (find (λ m. same m n) (numbers_below n)) n

  abbrev pub opens : ℕ → Bool
  opens n = least n == n

  -- how many classes have a lower least number
  abbrev pub number : ℕ → ℕ
  number n = count_by opens (numbers_below (least n))

  module _ (laws : IsEquivalence same) where
    its_first : (n : ℕ) → IsFirstOr (λ m. same m n) 0 n (least n)
    its_first n = let e : 0 + n ≡ n = omega arith in is_first (λ m. same m n) 0 n n (sym e)

    pub least_below : (n : ℕ) → least n ≤ n
    least_below n = (its_first n).below

    least_same : (n : ℕ) → same (least n) n ≡ true
    least_same n = ⊎_elim (λ e. subst (λ (k : ℕ). same k n ≡ true) (sym e) (laws.itself n)) (λ ne. (its_first n).passes ne) (cases_eq (least n) n)

    no_lower : (n m : ℕ) → m < least n → same m n ≡ true → ⊥
    no_lower n m low h = false≢true (sym ((its_first n).none m (omega arith) low) ∙ h)

    one_least : (n m : ℕ) → same n m ≡ true → least n ≡ least m
    one_least n m h = ⊎_elim (λ e. e) (λ o. absurd (⊎_elim
        (λ less. no_lower m (least n) less (laws.onward (least n) n m (least_same n) h))
        (λ more. no_lower n (least m) more (laws.onward (least m) m n (least_same m) (laws.back n m h))) o))
        (cases_order (least n) (least m))

    least_opens : (n : ℕ) → opens (least n) ≡ true
    least_opens n = eq-eqb (least (least n)) (least n) (one_least (least n) n (least_same n))

    pub alike : (n m : ℕ) → (number n ≡ number m) ↔ (same n m ≡ true)
    alike n m = (
      λ e. ⊎_elim
          (λ one. laws.onward n (least n) m (laws.back (least n) n (least_same n)) (subst (λ (k : ℕ). same k m ≡ true) (sym one) (least_same m)))
          (λ o. absurd (⊎_elim
          (λ less. let c = counted opens (least n) (least m) (least_opens n) less in omega (arith, c, e))
          (λ more. let c = counted opens (least m) (least n) (least_opens m) more in omega (arith, c, e)) o))
          (cases_order (least n) (least m)),
      λ h. ap (λ (k : ℕ). count_by opens (numbers_below k)) (one_least n m h),
    )

    pub lower : (n z : ℕ) → z < number n → (m : ℕ) × (m < n) × (number m ≡ z)
    lower n z h =
        let w = reached_at opens (least n) z h in
        let b = least_below n in
        (w.0, omega (arith, w.1, b), ap (λ (k : ℕ). count_by opens (numbers_below k)) (eqb-true (least w.0) w.0 w.2) ∙ w.3)
