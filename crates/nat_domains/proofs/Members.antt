-- Members of lists, and marks.
use Rattle.std.proofs.Common.{◌≡◌, ◌≢◌, ℕ, zero, suc, ◌+◌, ◌<◌, ◌⊎◌, inl, inr, Bool, true, false, cond, List, [], ◌∷◌, ◌++◌, length, set, refl, sym, ap, subst, ◌∙◌, ⊎_elim, arith}
use Rattle.std.specs.Prelude.{◌==◌, ◌≤◌, filter, map, slice_index, slice_index_or}
use Rattle.std.specs.List.{range_with_len}
use Rattle.std.proofs.Math.ListN.{get_or-map}
use Rattle.std.proofs.Math.Seq.{take-suc, take-append_seam}
use Rattle.std.proofs.Common.{take, drop}
use Rattle.std.proofs.lemmas.List.{get_or-set_same, get_or-set_other, map-append}
use Rattle.std.proofs.lemmas.Bool.{cases_eq, or_cases, or_left, or_right, eqb-true, eq-eqb, false≢true}
use Rattle.policy_model.specs.Lists.{has}
use Rattle.nat_domains.specs.Marks.{is_marked, unmarked}

pub has_left : (xs ys : List ℕ) (n : ℕ) → has xs n ≡ true → has (xs ++ ys) n ≡ true
has_left [] ys n h = absurd (false≢true h)
has_left (x ∷ xs) ys n h = ⊎_elim (λ e. or_left (x == n) (has (xs ++ ys) n) e) (λ g. or_right (x == n) (has (xs ++ ys) n) (has_left xs ys n g)) (or_cases (x == n) (has xs n) h)

pub has_right : (xs ys : List ℕ) (n : ℕ) → has ys n ≡ true → has (xs ++ ys) n ≡ true
has_right [] ys n h = h
has_right (x ∷ xs) ys n h = or_right (x == n) (has (xs ++ ys) n) (has_right xs ys n h)

pub has_either : (xs ys : List ℕ) (n : ℕ) → has (xs ++ ys) n ≡ true → (has xs n ≡ true) ⊎ (has ys n ≡ true)
has_either [] ys n h = inr h
has_either (x ∷ xs) ys n h =
    ⊎_elim (λ e. inl (or_left (x == n) (has xs n) e)) (λ g. ⊎_elim (λ a. inl (or_right (x == n) (has xs n) a)) (λ b. inr b) (has_either xs ys n g))
    (or_cases (x == n) (has (xs ++ ys) n) h)

pub has_one : (x n : ℕ) → has (x ∷ []) n ≡ true → x ≡ n
has_one x n h = ⊎_elim (λ e. eqb-true x n e) (λ f. absurd (false≢true f)) (or_cases (x == n) false h)

pub one_has : (x n : ℕ) → x ≡ n → has (x ∷ []) n ≡ true
one_has x n e = or_left (x == n) false (eq-eqb x n e)

-- ---- marks

pub marked_here : (marks : List Bool) (z : ℕ) → z < length marks → is_marked (set marks z true) z ≡ true
marked_here marks z h = get_or-set_same marks z true false h

pub marked_below : (marks : List Bool) (k : ℕ) → is_marked marks k ≡ true → k < length marks
marked_below [] k h = absurd (false≢true h)
marked_below (b ∷ marks) zero h = omega arith
marked_below (b ∷ marks) (suc k) h = let w = marked_below marks k h in omega (arith, w)

pub marks_grow : (marks : List Bool) (z k : ℕ) → z < length marks → is_marked marks k ≡ true → is_marked (set marks z true) k ≡ true
marks_grow marks z k there h =
    ⊎_elim (λ e. subst (λ (x : ℕ). is_marked (set marks z true) x ≡ true) (sym e) (marked_here marks z there)) (λ ne. get_or-set_other marks z k true false ne ∙ h) (cases_eq k z)

pub marks_come : (marks : List Bool) (z k : ℕ) → is_marked (set marks z true) k ≡ true → (is_marked marks k ≡ true) ⊎ (k ≡ z)
marks_come marks z k h = ⊎_elim (λ e. inr e) (λ ne. inl (sym (get_or-set_other marks z k true false ne) ∙ h)) (cases_eq k z)

pub one_less : (marks : List Bool) (z : ℕ) → z < length marks → is_marked marks z ≡ false → unmarked (set marks z true) + 1 ≡ unmarked marks
one_less [] z h f = absurd (omega arith)
one_less (true ∷ marks) zero h f = absurd (false≢true (sym f))
one_less (false ∷ marks) zero h f = omega arith
one_less (true ∷ marks) (suc z) h f = one_less marks z (omega arith) f
one_less (false ∷ marks) (suc z) h f = let w = one_less marks z (omega arith) f in omega (arith, w)

-- ---- rows

pub has_at : (xs : List ℕ) (k : ℕ) → k < length xs → has xs (slice_index xs k) ≡ true
has_at [] k h = absurd (omega arith)
has_at (x ∷ xs) zero h = or_left (x == x) (has xs x) (eq-eqb x x refl)
has_at (x ∷ xs) (suc k) h = or_right (x == slice_index xs k) (has xs (slice_index xs k)) (has_at xs k (omega arith))

-- what is among the numbers that pass
pub has_kept : (test : ℕ → Bool) (a n x : ℕ) → has (filter test (range_with_len a n)) x ≡ true → (a ≤ x) × (x < a + n) × (test x ≡ true)
has_kept test a zero x h = absurd (false≢true h)
has_kept test a (suc n) x h = go (λ g. let w = has_kept test (a + 1) n x g in (omega (arith, w.0), omega (arith, w.1), w.2)) (test a) refl h
  where
    go : (has (filter test (range_with_len (a + 1) n)) x ≡ true → (a ≤ x) × (x < a + suc n) × (test x ≡ true)) → (b : Bool) → test a ≡ b →
        has (cond b (a ∷ filter test (range_with_len (a + 1) n)) (filter test (range_with_len (a + 1) n))) x ≡ true → (a ≤ x) × (x < a + suc n) × (test x ≡ true)
    go later true e g =
        ⊎_elim (λ q. let is = eqb-true a x q in (omega (arith, is), omega (arith, is), subst (λ (k : ℕ). test k ≡ true) is e)) later
        (or_cases (a == x) (has (filter test (range_with_len (a + 1) n)) x) g)
    go later false e g = later g

pub kept_has : (test : ℕ → Bool) (a n x : ℕ) → a ≤ x → x < a + n → test x ≡ true → has (filter test (range_with_len a n)) x ≡ true
kept_has test a zero x low high t = absurd (omega (arith, low, high))
kept_has test a (suc n) x low high t = go (λ ne. kept_has test (a + 1) n x (omega (arith, low, ne)) (omega (arith, high)) t) (test a) refl
  where
    go : (a ≢ x → has (filter test (range_with_len (a + 1) n)) x ≡ true) → (b : Bool) → test a ≡ b →
        has (cond b (a ∷ filter test (range_with_len (a + 1) n)) (filter test (range_with_len (a + 1) n))) x ≡ true
    go later true e =
        ⊎_elim (λ q. or_left (a == x) (has (filter test (range_with_len (a + 1) n)) x) (eq-eqb a x q))
        (λ ne. or_right (a == x) (has (filter test (range_with_len (a + 1) n)) x) (later ne)) (cases_eq a x)
    go later false e = later (λ q. false≢true (sym e ∙ (ap test q ∙ t)))

-- a row of typed numbers
pub at_row : {T : Type 0} (number : T → ℕ) (ids : List T) (row : List ℕ) (d : T) → map number ids ≡ row → (k : ℕ) → number (slice_index_or ids k d) ≡ slice_index_or row k (number d)
at_row {T} number ids row d e k = sym (get_or-map number ids k d) ∙ ap (λ (xs : List ℕ). slice_index_or xs k (number d)) e

pub one_more : {T : Type 0} (number : T → ℕ) (xs : List T) (d : T) (k : ℕ) → k < length xs → map number (take (k + 1) xs) ≡ map number (take k xs) ++ number (slice_index_or xs k d) ∷ []
one_more {T} number xs d k h =
    let e : k + 1 ≡ suc k = omega arith in
    ap (λ (n : ℕ). map number (take n xs)) e ∙ (ap (map number) (take-suc xs k d h) ∙ map-append number (take k xs) (slice_index_or xs k d ∷ []))

-- what a vector has after its slice was written
pub written : {A : Type 0} (n : ℕ) (new old : List A) → n ≡ length new → take n (new ++ drop (length new) old) ≡ new
written {A} n new old e = ap (λ (k : ℕ). take k (new ++ drop (length new) old)) e ∙ take-append_seam new (drop (length new) old)
