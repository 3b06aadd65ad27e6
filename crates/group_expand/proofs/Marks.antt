-- Marks, and how many are missing.
use Rattle.std.proofs.Common.{◌≡◌, ◌≢◌, ℕ, zero, suc, ◌+◌, ◌<◌, Bool, true, false, cond, ◌||◌, List, [], ◌∷◌, ◌++◌, length, set, refl, sym, ap, subst, ◌∙◌, ⊎_elim, arith, ◌-◌, inl, inr, drop, slice_index, append_assoc}
use Rattle.std.specs.Prelude.{◌==◌, filter}
use Rattle.std.specs.List.{range_with_len}
use Rattle.std.proofs.lemmas.Bool.{cases_eq, cases_Bool, eq-eqb, ne_eqb, false≢true, or_cases, or_left, or_right, eqb-true}
use Rattle.std.proofs.lemmas.List.{get_or-set_same, get_or-set_other, length-append}
use Rattle.policy_model.specs.Lists.{has, numbers_below}
use Rattle.policy_model.proofs.AllWalks.{IsIn, in_filter, in_numbers}
use Rattle.policy_model.proofs.Numbers.{filter_left}
use Rattle.group_expand.proofs.Rows.{left_of}
use Rattle.group_expand.specs.Spread.{marked, unmarked_count, Grows, AreUnmarked, AreMarksOf}

-- one mark more
pub set_grows : (marks : List Bool) (z : ℕ) → z < length marks → Grows marks (set marks z true)
set_grows marks z there n h =
    ⊎_elim (λ e. subst (λ (k : ℕ). marked (set marks z true) k ≡ true) (sym e) (get_or-set_same marks z true false there))
    (λ ne. get_or-set_other marks z n true false ne ∙ h) (cases_eq n z)

pub set_marks : (marks : List Bool) (z : ℕ) → z < length marks → marked (set marks z true) z ≡ true
set_marks marks z there = get_or-set_same marks z true false there

-- what is marked then was marked, or is the one
pub set_only : (marks : List Bool) (z n : ℕ) → n ≢ z → marked (set marks z true) n ≡ true → marked marks n ≡ true
set_only marks z n ne h = sym (get_or-set_other marks z n true false ne) ∙ h

pub set_again : (marks : List Bool) (z : ℕ) → marked marks z ≡ true → unmarked_count (set marks z true) ≡ unmarked_count marks
set_again [] z h = absurd (false≢true h)
set_again (true ∷ marks) zero h = refl
set_again (false ∷ marks) zero h = absurd (false≢true h)
set_again (true ∷ marks) (suc z) h = set_again marks z h
set_again (false ∷ marks) (suc z) h = ap suc (set_again marks z h)

pub set_once : (marks : List Bool) (z : ℕ) → z < length marks → marked marks z ≡ false → unmarked_count (set marks z true) + 1 ≡ unmarked_count marks
set_once [] z there h = absurd (omega (arith, there))
set_once (true ∷ marks) zero there h = absurd (false≢true (sym h))
set_once (false ∷ marks) zero there h = omega arith
set_once (true ∷ marks) (suc z) there h = set_once marks z (omega (arith, there)) h
set_once (false ∷ marks) (suc z) there h = let e = set_once marks z (omega (arith, there)) h in omega (arith, e)

-- ---- numbers in a list with one more at its end

pub has_front : (xs : List ℕ) (z n : ℕ) → has xs n ≡ true → has (xs ++ z ∷ []) n ≡ true
has_front [] z n h = absurd (false≢true h)
has_front (x ∷ xs) z n h =
    ⊎_elim (λ e. or_left (x == n) (has (xs ++ z ∷ []) n) e) (λ g. or_right (x == n) (has (xs ++ z ∷ []) n) (has_front xs z n g)) (or_cases (x == n) (has xs n) h)

pub has_end : (xs : List ℕ) (z : ℕ) → has (xs ++ z ∷ []) z ≡ true
has_end [] z = or_left (z == z) false (eq-eqb z z refl)
has_end (x ∷ xs) z = or_right (x == z) (has (xs ++ z ∷ []) z) (has_end xs z)

pub has_either : (xs : List ℕ) (z n : ℕ) → has (xs ++ z ∷ []) n ≡ true → n ≢ z → has xs n ≡ true
has_either [] z n h ne = ⊎_elim (λ e. absurd (ne (sym (eqb-true z n e)))) (λ g. absurd (false≢true g)) (or_cases (z == n) false h)
has_either (x ∷ xs) z n h ne =
    ⊎_elim (λ e. or_left (x == n) (has xs n) e) (λ g. or_right (x == n) (has xs n) (has_either xs z n g ne)) (or_cases (x == n) (has (xs ++ z ∷ []) n) h)

-- what is not in the longer list is not in the shorter
pub has_not : (xs : List ℕ) (z n : ℕ) → has (xs ++ z ∷ []) n ≡ false → has xs n ≡ false
has_not xs z n h = ⊎_elim (λ t. absurd (false≢true (sym h ∙ has_front xs z n t))) (λ f. f) (cases_Bool (has xs n))

-- ---- tables of marks

bare_end : (marks : List Bool) (n : ℕ) → ((k : ℕ) → marked marks k ≡ false) → marked (marks ++ false ∷ []) n ≡ false
bare_end [] zero bare = refl
bare_end [] (suc n) bare = refl
bare_end (m ∷ marks) zero bare = bare zero
bare_end (m ∷ marks) (suc n) bare = bare_end marks n (λ k. bare (suc k))

pub none_marked : AreUnmarked [] 0
none_marked = record { each = refl; bare = λ n. refl }

pub one_unmarked : (marks new : List Bool) (count : ℕ) → new ≡ marks ++ false ∷ [] → AreUnmarked marks count → AreUnmarked new (count + 1)
one_unmarked marks new count e old =
    record {
      each = ap length e ∙ (length-append marks (false ∷ []) ∙ ap (λ (k : ℕ). k + 1) old.each);
      bare = λ n. ap (λ (xs : List Bool). marked xs n) e ∙ bare_end marks n old.bare;
    }

pub marked_below : (marks : List Bool) (n : ℕ) → marked marks n ≡ true → n < length marks
marked_below [] n h = absurd (false≢true h)
marked_below (m ∷ marks) zero h = omega arith
marked_below (m ∷ marks) (suc n) h = let w = marked_below marks n h in omega (arith, w)

-- what is marked, or still to be
abbrev pub MarksSoFar : List Bool → List ℕ → List ℕ → Type 0
MarksSoFar marks rest all = (n : ℕ) → (marked marks n || has rest n) ≡ has all n

pub marks_begin : (marks : List Bool) (count : ℕ) (all : List ℕ) → AreUnmarked marks count → MarksSoFar marks all all
marks_begin marks count all none n = ap (λ (b : Bool). b || has all n) (none.bare n)

pub marks_on : (marks : List Bool) (x : ℕ) (rest all : List ℕ) → x < length marks → MarksSoFar marks (x ∷ rest) all → MarksSoFar (set marks x true) rest all
marks_on marks x rest all there old n =
    ⊎_elim
    (λ e. ap (λ (b : Bool). b || has rest n) (subst (λ (k : ℕ). marked (set marks x true) k ≡ true) (sym e) (set_marks marks x there))
    ∙ (sym (or_true (marked marks n) ((x == n) || has rest n) (ap (λ (b : Bool). b || has rest n) (eq-eqb x n (sym e)))) ∙ old n))
    (λ ne. ap (λ (b : Bool). b || has rest n) (get_or-set_other marks x n true false ne)
    ∙ (ap (λ (b : Bool). marked marks n || (b || has rest n)) (sym (ne_eqb x n (λ e. ne (sym e)))) ∙ old n))
    (cases_eq n x)
  where
    or_true : (a b : Bool) → b ≡ true → (a || b) ≡ true
    or_true true b h = refl
    or_true false b h = h

pub marks_end : (marks : List Bool) (count : ℕ) (rest all : List ℕ) → length marks ≡ count → rest ≡ [] → MarksSoFar marks rest all → AreMarksOf marks count all
marks_end marks count rest all e none old = record { each = e; at = λ n. sym (or_false (marked marks n)) ∙ (ap (λ (xs : List ℕ). marked marks n || has xs n) (sym none) ∙ old n) }
  where
    or_false : (a : Bool) → (a || false) ≡ a
    or_false true = refl
    or_false false = refl

-- one interface of a row more
pub marks_next : (marks : List Bool) (x k : ℕ) (row all : List ℕ) → x ≡ slice_index row k → k < length row → x < length marks → MarksSoFar marks (drop k row) all →
    MarksSoFar (set marks x true) (drop (k + 1) row) all
marks_next marks x k row all e h there old =
    marks_on marks x (drop (k + 1) row) all there
    (subst (λ (xs : List ℕ). MarksSoFar marks xs all) (left_of row k h ∙ ap (λ (y : ℕ). y ∷ drop (k + 1) row) (sym e)) old)

-- ---- the marked numbers

pub has_it : (xs : List ℕ) (n : ℕ) → IsIn n xs → has xs n ≡ true
has_it [] n h = absurd h
has_it (x ∷ xs) n (inl e) = or_left (x == n) (has xs n) (eq-eqb x n (sym e))
has_it (x ∷ xs) n (inr h) = or_right (x == n) (has xs n) (has_it xs n h)

pub row_has : (test : ℕ → Bool) (n i : ℕ) → i < n → test i ≡ true → has (filter test (numbers_below n)) i ≡ true
row_has test n i h t = has_it (filter test (numbers_below n)) i (in_filter test i (numbers_below n) (in_numbers n i h) t)

-- a loop over numbers that pushes those that pass
pub pushed : (test : ℕ → Bool) (i n : ℕ) (old new all : List ℕ) → i < n → new ≡ cond (test i) (old ++ i ∷ []) old → old ++ filter test (range_with_len i (n - i)) ≡ all →
    new ++ filter test (range_with_len (i + 1) (n - (i + 1))) ≡ all
pushed test i n old new all h e so_far = by (test i) refl
  where
    by : (b : Bool) → test i ≡ b → new ++ filter test (range_with_len (i + 1) (n - (i + 1))) ≡ all
    by true t =
        ap (λ (xs : List ℕ). xs ++ filter test (range_with_len (i + 1) (n - (i + 1)))) (e ∙ ap (λ (b : Bool). cond b (old ++ i ∷ []) old) t)
        ∙ (append_assoc old (i ∷ []) (filter test (range_with_len (i + 1) (n - (i + 1))))
        ∙ (ap (λ (xs : List ℕ). old ++ xs) (sym (filter_left test i n h
        ∙ ap (λ (b : Bool). cond b (i ∷ filter test (range_with_len (i + 1) (n - (i + 1)))) (filter test (range_with_len (i + 1) (n - (i + 1))))) t)) ∙ so_far))
    by false t =
        ap (λ (xs : List ℕ). xs ++ filter test (range_with_len (i + 1) (n - (i + 1)))) (e ∙ ap (λ (b : Bool). cond b (old ++ i ∷ []) old) t)
        ∙ (ap (λ (xs : List ℕ). old ++ xs) (sym (filter_left test i n h
        ∙ ap (λ (b : Bool). cond b (i ∷ filter test (range_with_len (i + 1) (n - (i + 1)))) (filter test (range_with_len (i + 1) (n - (i + 1))))) t)) ∙ so_far)
