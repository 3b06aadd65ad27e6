-- What a search has marked after one more node, and after one more row.
use Rattle.std.proofs.Common.{arith, ◌≡◌, ◌∙◌, refl, sym, ap, subst, ℕ, zero, suc, ◌+◌, ◌<◌, ◌≤◌, ◌≢◌, Bool, true, false, cond, ◌&&◌, ◌||◌, eqb, nat_lt, List, [], ◌∷◌, ◌++◌, length, drop, get_or, set, replicate, count_by, append-nil, append_assoc, length-append, length-drop, length-set}
use Rattle.std.specs.List.{list_all}
use Rattle.std.proofs.lemmas.List.{drop_all, drop_more, drop-append-le, get_or_past, get_or-set_other, get_or-set_same, length-replicate}
use Rattle.std.proofs.lemmas.List.Folds.{list_all-append, list_any-append, sum_by-replicate}
use Rattle.std.proofs.lemmas.List.Sums.{count_by-le-length, sum_by-set}
use Rattle.std.proofs.lemmas.Bool.Decides.{nat_tests}
use Rattle.policy_nesting.specs.Graph.{row_at, holds, leads, flag_at}
use Rattle.policy_nesting.specs.Search.{Marks, Finds, Covers}
use Rattle.policy_nesting.proofs.Testing.{and_first, and_second, both, or_first, or_second, either, same_number, own_number, all_then, all_at}
use Rattle.policy_nesting.proofs.Leads.{leads_le, leads_first, leads_on, all_marked}

abbrev is_on : Bool → Bool
is_on b = b

-- ---- one more node

flag_set : (flags : List Bool) (k j : ℕ) (b : Bool) → eqb k j ≡ b → k < length flags → flag_at (set flags k true) j ≡ (b || flag_at flags j)
flag_set flags k j true e l = let same : j ≡ k = grind (arith, nat_tests) in ap (flag_at (set flags k true)) same ∙ get_or-set_same flags k true false l
flag_set flags k j false e l = let other : j ≢ k = grind (arith, nat_tests) in get_or-set_other flags k j true false other

pub all_push : (p : ℕ → Bool) (xs : List ℕ) (k : ℕ) → list_all p xs ≡ true → p k ≡ true → list_all p (xs ++ k ∷ []) ≡ true
all_push p xs k e h = list_all-append p xs (k ∷ []) ∙ both (list_all p xs) (p k && true) e (both (p k) true h refl)

holds_push : (xs : List ℕ) (k j : ℕ) → holds xs j ≡ true → holds (xs ++ k ∷ []) j ≡ true
holds_push xs k j e = list_any-append (λ i. eqb i j) xs (k ∷ []) ∙ or_first (holds xs j) (eqb k j || false) e

holds_last : (xs : List ℕ) (k j : ℕ) → eqb k j ≡ true → holds (xs ++ k ∷ []) j ≡ true
holds_last xs k j e = list_any-append (λ i. eqb i j) xs (k ∷ []) ∙ or_second (holds xs j) (eqb k j || false) (or_first (eqb k j) false e)

pub marks_none : (marked : List Bool) (found : List ℕ) → Marks [] marked found marked found
marks_none marked found =
    let nothing = drop_all (length found) found (omega arith) in
    record {
      long = refl;
      all = refl;
      grows = λ k e. e;
      among = λ k e. or_first (flag_at marked k) false e;
      added = λ k e. or_first (flag_at marked k) (holds (drop (length found) found) k) e;
      behind = sym (ap (λ l. found ++ l) nothing ∙ append-nil found);
      count = refl;
      listed = ap (list_all (flag_at marked)) nothing;
    }

module _ (row : List ℕ) (marked : List Bool) (found : List ℕ) (marked' : List Bool) (found' : List ℕ) (h : Marks row marked found marked' found') (k : ℕ) where
  pub marks_old : flag_at marked' k ≡ true → Marks (row ++ k ∷ []) marked found marked' found'
  marks_old e =
      record {
        long = h.long;
        all = all_push (flag_at marked') row k h.all e;
        grows = h.grows;
        among = λ j d. either (flag_at marked j) (holds row j) (h.among j d) (λ g. or_first (flag_at marked j) (holds (row ++ k ∷ []) j) g) (λ g. or_second (flag_at marked j) (holds (row ++ k ∷ []) j) (holds_push row k j g));
        added = h.added;
        behind = h.behind;
        count = h.count;
        listed = h.listed;
      }

  rest_more : drop (length found) (found' ++ k ∷ []) ≡ drop (length found) found' ++ k ∷ []
  rest_more = let fits : length found ≤ length found' = omega (arith, ap length h.behind, length-append found (drop (length found) found')) in drop-append-le (length found) found' (k ∷ []) fits

  module _ (within : k < length marked') where
    still : (j : ℕ) → flag_at marked' j ≡ true → flag_at (set marked' k true) j ≡ true
    still j e = flag_set marked' k j (eqb k j) refl within ∙ or_second (eqb k j) (flag_at marked' j) e

    now : flag_at (set marked' k true) k ≡ true
    now = flag_set marked' k k (eqb k k) refl within ∙ or_first (eqb k k) (flag_at marked' k) (own_number k)

    cases : {P : Type 0} (j : ℕ) → flag_at (set marked' k true) j ≡ true → (eqb k j ≡ true → P) → (flag_at marked' j ≡ true → P) → P
    cases j e f g = either (eqb k j) (flag_at marked' j) (sym (flag_set marked' k j (eqb k j) refl within) ∙ e) f g

    counted : flag_at marked' k ≡ false → count_by is_on (set marked' k true) ≡ count_by is_on marked' + 1
    counted e =
        let put = sum_by-set (λ b. cond b 1 0) marked' k true false within in
        let none : ◌≡◌ {A = ℕ} (cond (get_or marked' k false) 1 0) 0 = ap (λ b. cond b 1 0) e in
        omega (arith, put, none)

    pub marks_new : flag_at marked' k ≡ false → Marks (row ++ k ∷ []) marked found (set marked' k true) (found' ++ k ∷ [])
    marks_new e =
        record {
          long = length-set marked' k true ∙ h.long;
          all = all_push (flag_at (set marked' k true)) row k (all_then (flag_at marked') (flag_at (set marked' k true)) still row h.all) now;
          grows = λ j d. still j (h.grows j d);
          among = λ j d. cases j d (λ same. or_second (flag_at marked j) (holds (row ++ k ∷ []) j) (holds_last row k j same))
              (λ was. either (flag_at marked j) (holds row j) (h.among j was) (λ g. or_first (flag_at marked j) (holds (row ++ k ∷ []) j) g) (λ g. or_second (flag_at marked j) (holds (row ++ k ∷ []) j) (holds_push row k j g)));
          added = λ j d. ap (λ l. flag_at marked j || holds l j) rest_more ∙ cases j d (λ same. or_second (flag_at marked j) (holds (drop (length found) found' ++ k ∷ []) j) (holds_last (drop (length found) found') k j same))
              (λ was. either (flag_at marked j) (holds (drop (length found) found') j) (h.added j was) (λ g. or_first (flag_at marked j) (holds (drop (length found) found' ++ k ∷ []) j) g)
              (λ g. or_second (flag_at marked j) (holds (drop (length found) found' ++ k ∷ []) j) (holds_push (drop (length found) found') k j g)));
          behind = ap (λ l. l ++ k ∷ []) h.behind ∙ append_assoc found (drop (length found) found') (k ∷ []) ∙ ap (λ l. found ++ l) (sym rest_more);
          count = let more = counted e in omega (arith, h.count, more, length-append found' (k ∷ []));
          listed = ap (list_all (flag_at (set marked' k true))) rest_more ∙ all_push (flag_at (set marked' k true)) (drop (length found) found') k (all_then (flag_at marked') (flag_at (set marked' k true)) still (drop (length found) found') h.listed) now;
        }

-- ---- one more row

some_held : (xs : List ℕ) (k : ℕ) → holds xs k ≡ true → 0 < length xs
some_held [] k e = absurd (cc)
some_held (x ∷ xs) k e = omega arith

all_own : (p : ℕ → Bool) (xs : List ℕ) → ((k : ℕ) → holds xs k ≡ true → p k ≡ true) → list_all p xs ≡ true
all_own p [] h = refl
all_own p (x ∷ xs) h = both (p x) (list_all p xs) (h x (or_first (eqb x x) (holds xs x) (own_number x))) (all_own p xs (λ k e. h k (or_second (eqb x k) (holds xs k) e)))

module _ (rows : List (List ℕ)) (a : ℕ) where
  none_flagged : (n k : ℕ) → flag_at (replicate n false) k ≡ true → ⊥
  none_flagged zero k e = absurd (cc)
  none_flagged (suc n) zero e = absurd (cc)
  none_flagged (suc n) (suc k) e = none_flagged n k e

  none_counted : (n : ℕ) → count_by is_on (replicate n false) ≡ 0
  none_counted n = let e = sum_by-replicate (λ b. cond b 1 0) n false in omega (arith, e)

  pub finds_none : Finds rows a (replicate (length rows) false) []
  finds_none = record { long = length-replicate (length rows) false; count = sym (none_counted (length rows)); listed = refl; reached = λ k e. absurd (none_flagged (length rows) k e) }

  -- to what it names, a node leads; and so does one that leads to it
  pub own_row : (n : ℕ) → list_all (λ k. leads rows (suc n) a k) (row_at rows a) ≡ true
  own_row n = all_own (λ k. leads rows (suc n) a k) (row_at rows a) (λ k e. leads_first rows n a k e)

  pub row_behind : (n x : ℕ) → leads rows n a x ≡ true → list_all (λ k. leads rows (suc n) a k) (row_at rows x) ≡ true
  row_behind n x h = all_own (λ k. leads rows (suc n) a k) (row_at rows x) (λ k e. leads_on rows n a x k h e)

  module _ (row : List ℕ) (marked : List Bool) (found : List ℕ) (marked' : List Bool) (found' : List ℕ) (m : Marks row marked found marked' found') where
    grown : length found ≤ length found'
    grown = omega (arith, ap length m.behind, length-append found (drop (length found) found'))

    pub finds_more : Finds rows a marked found → list_all (λ k. leads rows (suc (length found)) a k) row ≡ true → Finds rows a marked' found'
    finds_more h e =
        record {
          long = m.long ∙ h.long;
          count = omega (arith, m.count, h.count);
          listed =
              ap (list_all (flag_at marked')) m.behind ∙ list_all-append (flag_at marked') found (drop (length found) found')
              ∙ both (list_all (flag_at marked') found) (list_all (flag_at marked') (drop (length found) found')) (all_then (flag_at marked) (flag_at marked') m.grows found h.listed) m.listed;
          reached = λ k d.
              let old = λ (g : flag_at marked k ≡ true). leads_le rows (length found) (length found') a k grown (h.reached k g) in
              either (flag_at marked k) (holds (drop (length found) found') k) (m.added k d) old
              (λ new. either (flag_at marked k) (holds row k) (m.among k d) old
              (λ own. leads_le rows (suc (length found)) (length found') a k (omega (arith, some_held (drop (length found) found') k new, length-drop (length found) found')) (all_at (λ j. leads rows (suc (length found)) a j) row k e own)));
        }

    pub covers_more : (x : ℕ) (left : List ℕ) → row ≡ row_at rows x → Covers rows a marked (x ∷ left) → Covers rows a marked' (left ++ drop (length found) found')
    covers_more x left at h =
        let new = drop (length found) found' in
        record {
          own = all_then (flag_at marked) (flag_at marked') m.grows (row_at rows a) h.own;
          others = λ k d.
              let done = list_all (flag_at marked') (row_at rows k) in
              let in_left = λ (g : holds left k ≡ true). or_first (holds (left ++ new) k) done (list_any-append (λ i. eqb i k) left new ∙ or_first (holds left k) (holds new k) g) in
              let in_new = λ (g : holds new k ≡ true). or_first (holds (left ++ new) k) done (list_any-append (λ i. eqb i k) left new ∙ or_second (holds left k) (holds new k) g) in
              let this = λ (g : eqb x k ≡ true). or_second (holds (left ++ new) k) done (ap (λ i. list_all (flag_at marked') (row_at rows i)) (sym (same_number x k g)) ∙ ap (list_all (flag_at marked')) (sym at) ∙ m.all) in
              let before = λ (g : list_all (flag_at marked) (row_at rows k) ≡ true). or_second (holds (left ++ new) k) done (all_then (flag_at marked) (flag_at marked') m.grows (row_at rows k) g) in
              either (flag_at marked k) (holds new k) (m.added k d)
              (λ old. either (eqb x k || holds left k) (list_all (flag_at marked) (row_at rows k)) (h.others k old) (λ g. either (eqb x k) (holds left k) g this in_left) before) in_new;
        }

  pub covers_first : (marked' : List Bool) (found' : List ℕ) → Marks (row_at rows a) (replicate (length rows) false) [] marked' found' → Covers rows a marked' found'
  covers_first marked' found' m =
      record {
        own = m.all;
        others = λ k d.
            either (flag_at (replicate (length rows) false) k) (holds found' k) (m.added k d) (λ g. absurd (none_flagged (length rows) k g)) (λ g. or_first (holds found' k) (list_all (flag_at marked') (row_at rows k)) g);
      }

  pub back_is : (marked : List Bool) (found left : List ℕ) → Finds rows a marked found → Covers rows a marked left → left ≡ [] → (n : ℕ) → length rows ≤ n → flag_at marked a ≡ leads rows n a a
  back_is marked found left h c e n l = by_flag (flag_at marked a) (leads rows n a a) refl refl
    where
      few : length found ≤ n
      few = omega (arith, h.count, h.long, count_by-le-length is_on marked)

      by_flag : (b d : Bool) → flag_at marked a ≡ b → leads rows n a a ≡ d → b ≡ d
      by_flag true true f g = refl
      by_flag true false f g = sym (leads_le rows (length found) n a a few (h.reached a f)) ∙ g
      by_flag false true f g = sym f ∙ all_marked rows a marked (subst (λ l. Covers rows a marked l) e c) n a g
      by_flag false false f g = refl

pub flag_below : (flags : List Bool) (k : ℕ) → flag_at flags k ≡ true → k < length flags
flag_below flags k e = by_room (nat_lt k (length flags)) refl
  where
    by_room : (b : Bool) → nat_lt k (length flags) ≡ b → k < length flags
    by_room true h = grind (arith, nat_tests)
    by_room false h = let past : length flags ≤ k = grind (arith, nat_tests) in let none = get_or_past flags k false past in absurd (cc)

-- ---- a search from its beginning to its end

all_index : (p : ℕ → Bool) (xs : List ℕ) (i : ℕ) → list_all p xs ≡ true → i < length xs → p (get_or xs i 0) ≡ true
all_index p [] i e l = absurd (omega arith)
all_index p (x ∷ xs) zero e l = and_first (p x) (list_all p xs) e
all_index p (x ∷ xs) (suc i) e l = all_index p xs i (and_second (p x) (list_all p xs) e) (omega arith)

module _ (rows : List (List ℕ)) (a : ℕ) where
  pub search_begins : (row : List ℕ) (none : List Bool) (nothing : List ℕ) (marked : List Bool) (found : List ℕ) → row ≡ row_at rows a → none ≡ replicate (length rows) false → nothing ≡ [] → Marks row none nothing marked found
      → Finds rows a marked found × Covers rows a marked found
  search_begins row none nothing marked found at e f m =
      let begun : Marks (row_at rows a) (replicate (length rows) false) [] marked found = rw (← at, ← e, ← f) m in
      (finds_more rows a (row_at rows a) (replicate (length rows) false) [] marked found begun (finds_none rows a) (own_row rows a 0), covers_first rows a marked found begun)

  pub search_goes_on : (row : List ℕ) (x next : ℕ) (marked : List Bool) (found : List ℕ) (marked' : List Bool) (found' : List ℕ) → next < length found → x ≡ get_or found next 0 → row ≡ row_at rows x → Marks row marked found marked' found'
      → Finds rows a marked found → Covers rows a marked (drop next found) → Finds rows a marked' found' × Covers rows a marked' (drop (next + 1) found')
  search_goes_on row x next marked found marked' found' l is at m h c =
      let seen : flag_at marked x ≡ true = ap (flag_at marked) is ∙ all_index (flag_at marked) found next h.listed l in
      let steps : list_all (λ k. leads rows (suc (length found)) a k) row ≡ true = ap (list_all (λ k. leads rows (suc (length found)) a k)) at ∙ row_behind rows a (length found) x (h.reached x seen) in
      let left : drop next found ≡ x ∷ drop (next + 1) found = drop_more found next 0 l ∙ ap (λ y. y ∷ drop (next + 1) found) (sym is) in
      let rest : drop (next + 1) found' ≡ drop (next + 1) found ++ drop (length found) found' = ap (drop (next + 1)) m.behind ∙ drop-append-le (next + 1) found (drop (length found) found') (omega arith) in (
        finds_more rows a row marked found marked' found' m h steps,
        subst (λ r. Covers rows a marked' r) (sym rest) (covers_more rows a row marked found marked' found' m x (drop (next + 1) found) at (subst (λ r. Covers rows a marked r) left c)),
      )

  pub found_few : (marked : List Bool) (found : List ℕ) → Finds rows a marked found → length found ≤ length rows
  found_few marked found h = omega (arith, h.count, h.long, count_by-le-length is_on marked)

  pub search_ends : (marked : List Bool) (found : List ℕ) (next : ℕ) (back : Bool) → length found ≤ next → back ≡ flag_at marked a → Finds rows a marked found → Covers rows a marked (drop next found) → (n : ℕ) → length rows ≤ n → back ≡ leads rows n a a
  search_ends marked found next back l e h c n m = e ∙ back_is rows a marked found (drop next found) h c (drop_all next found l) n m
