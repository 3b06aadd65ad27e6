-- The longest of a list, and what a permutation keeps.
use Rattle.std.proofs.Common.{◌≡◌, ◌≢◌, ℕ, zero, suc, ◌<◌, ◌≤◌, ◌⊎◌, inl, inr, Bool, true, false, cond, List, [], ◌∷◌, length, refl, sym, ap, ◌∙◌, ⊎_elim, arith}
use Rattle.std.specs.Prelude.{Some, None, ◌==◌, nat_lt, filter, find, option_map, slice_index_or}
use Rattle.std.specs.List.{Contains, fold, sum_by}
use Rattle.std.specs.List.Sorted.{IsPermutation}
use Rattle.std.proofs.lemmas.List.Sorted.{sum_by-IsPermutation}
use Rattle.std.proofs.lemmas.List.Sums.{sum_by-cons, get_or-le-sum_by}
use Rattle.std.proofs.lemmas.Bool.{ltb-true, lt-ltb, eqb-true, eq-eqb, both_ways, false_from_ne_true}
use Rattle.policy_model.specs.Places.{longest_by}
use Rattle.policy_model.proofs.AllWalks.{IsIn, in_filter}
use Rattle.list_laws.proofs.Members.{from_filter}
use Rattle.subnet_tree.specs.Entries.{Entry, HaveDistinctNumbers, longest}

-- ---- what is in a list

pub contains_in : {A : Type 0} (xs : List A) (x : A) → Contains xs x → IsIn x xs
contains_in xs x c = go xs c.0 c.1 c.2
  where
    go : {A : Type 0} (xs : List A) {x : A} (k : ℕ) → k < length xs → slice_index_or xs k x ≡ x → IsIn x xs
    go [] k below e = absurd (let z : ⊥ = omega (arith, below) in z)
    go (y ∷ ys) zero below e = inl (sym e)
    go (y ∷ ys) (suc k) below e = inr (go ys k (omega (arith, below)) e)

pub in_contains : {A : Type 0} (xs : List A) (x : A) → IsIn x xs → Contains xs x
in_contains [] x h = absurd h
in_contains (y ∷ ys) x (inl e) = (0, omega arith, sym e)
in_contains (y ∷ ys) x (inr h) = let w = in_contains ys x h in let b = w.1 in (suc w.0, omega (arith, b), w.2)

-- ---- the longest

fold_step : {A : Type 0} (len : A → ℕ) (best x y : A) (ys : List A) → (best ≡ x) ⊎ (len best < len x) → (y ≡ x) ⊎ (len y < len x) → (best ≡ x) ⊎ ((x ≡ y) ⊎ IsIn x ys) → (c : Bool) → nat_lt (len best) (len y) ≡ c →
    ((b : A) → (b ≡ x) ⊎ (len b < len x) → (b ≡ x) ⊎ IsIn x ys → fold (λ d z. cond (nat_lt (len d) (len z)) z d) b ys ≡ x) → fold (λ b z. cond (nat_lt (len b) (len z)) z b) (cond c y best) ys ≡ x
fold_step len best x y ys first second there true e later =
    let lt = ltb-true (len best) (len y) e in
    later y second
    (⊎_elim
    (λ (b : best ≡ x). ⊎_elim (λ (f : y ≡ x). inl f) (λ (less : len y < len x). absurd (let g = ap len b in let z : ⊥ = omega (arith, lt, less, g) in z)) second)
    (λ h. ⊎_elim (λ (f : x ≡ y). inl (sym f)) (λ i. inr i) h)
    there)
fold_step len best x y ys first second there false e later =
    later best first
    (⊎_elim
    (λ b. inl b)
    (λ h. ⊎_elim
    (λ (f : x ≡ y). ⊎_elim (λ b. inl b) (λ (less : len best < len x). absurd (both_ways (nat_lt (len best) (len y)) e (lt-ltb (len best) (len y) (let g = ap len f in omega (arith, less, g))))) first)
    (λ i. inr i) h)
    there)

fold_longest : {A : Type 0} (len : A → ℕ) (best x : A) (xs : List A) → (best ≡ x) ⊎ (len best < len x) → ((y : A) → IsIn y xs → (y ≡ x) ⊎ (len y < len x)) → (best ≡ x) ⊎ IsIn x xs →
    fold (λ b y. cond (nat_lt (len b) (len y)) y b) best xs ≡ x
fold_longest len best x [] first others there = ⊎_elim (λ e. e) (λ z. absurd z) there
fold_longest len best x (y ∷ ys) first others there =
    fold_step len best x y ys first (others y (inl refl)) there (nat_lt (len best) (len y)) refl (λ b first there. fold_longest len b x ys first (λ z h. others z (inr h)) there)

-- the one that all others are shorter than
pub longest_is : {A : Type 0} (len : A → ℕ) (x : A) (xs : List A) → IsIn x xs → ((y : A) → IsIn y xs → (y ≡ x) ⊎ (len y < len x)) → longest_by len xs ≡ Some x
longest_is len x [] h others = absurd h
longest_is len x (y ∷ ys) h others = ap (λ z. Some z) (fold_longest len y x ys (others y (inl refl)) (λ z i. others z (inr i)) (⊎_elim (λ e. inl (sym e)) (λ i. inr i) h))

pub filter_none : {A : Type 0} (test : A → Bool) (xs : List A) → ((x : A) → IsIn x xs → test x ≡ false) → filter test xs ≡ []
filter_none test [] h = refl
filter_none test (x ∷ xs) h = ap (λ b. cond b (x ∷ filter test xs) (filter test xs)) (h x (inl refl)) ∙ filter_none test xs (λ y i. h y (inr i))

pub longest_one : (test : Entry → Bool) (items : List Entry) (x : Entry) → IsIn x items → test x ≡ true → ((y : Entry) → IsIn y items → test y ≡ true → (y ≡ x) ⊎ (y.prefix.len < x.prefix.len)) →
    longest (filter test items) ≡ Some x.net
longest_one test items x h t others =
    ap (option_map (λ e. e.net)) (longest_is (λ e. e.prefix.len) x (filter test items) (in_filter test x items h t) (λ y i. let w = from_filter test y items i in others y w.0 w.1))

pub longest_none : (test : Entry → Bool) (items : List Entry) → ((x : Entry) → IsIn x items → test x ≡ false) → longest (filter test items) ≡ None
longest_none test items h = ap longest (filter_none test items h)

-- ---- the first that passes

find_step : {A : Type 0} (test : A → Bool) (x y : A) (ys : List A) → (x ≡ y) ⊎ IsIn x ys → test x ≡ true → (test y ≡ true → y ≡ x) → (c : Bool) → test y ≡ c → (IsIn x ys → find test ys ≡ Some x) → cond c (Some y) (find test ys) ≡ Some x
find_step test x y ys h t only true e later = ap (λ z. Some z) (only e)
find_step test x y ys h t only false e later = ⊎_elim (λ (f : x ≡ y). absurd (both_ways (test y) e (ap test (sym f) ∙ t))) (λ i. later i) h

pub find_one : {A : Type 0} (test : A → Bool) (x : A) (xs : List A) → IsIn x xs → test x ≡ true → ((y : A) → IsIn y xs → test y ≡ true → y ≡ x) → find test xs ≡ Some x
find_one test x [] h t only = absurd h
find_one test x (y ∷ ys) h t only = find_step test x y ys h t (only y (inl refl)) (test y) refl (λ i. find_one test x ys i t (λ z j. only z (inr j)))

pub find_none : {A : Type 0} (test : A → Bool) (xs : List A) → ((x : A) → IsIn x xs → test x ≡ false) → find test xs ≡ None
find_none test [] h = refl
find_none test (x ∷ xs) h = ap (λ b. cond b (Some x) (find test xs)) (h x (inl refl)) ∙ find_none test xs (λ y i. h y (inr i))

-- ---- distinct numbers

abbrev is_net : ℕ → Entry → ℕ
is_net n e = cond (e.net == n) 1 0

is_net_at : (n : ℕ) (e : Entry) → e.net ≡ n → is_net n e ≡ 1
is_net_at n e h = ap (λ b. cond b 1 0) (eq-eqb e.net n h)

none_of_net : (n : ℕ) (es : List Entry) → ((k : ℕ) (d : Entry) → k < length es → (slice_index_or es k d).net ≢ n) → sum_by (is_net n) es ≡ 0
none_of_net n [] h = refl
none_of_net n (e ∷ es) h =
    let c = sum_by-cons (is_net n) e es in
    let z : is_net n e ≡ 0 = ap (λ b. cond b 1 0) (false_from_ne_true (e.net == n) (λ t. h 0 e (omega arith) (eqb-true e.net n t))) in
    let r = none_of_net n es (λ k d below. h (suc k) d (omega (arith, below))) in
    omega (arith, c, z, r)

later : (e : Entry) (es : List Entry) → HaveDistinctNumbers (e ∷ es) → HaveDistinctNumbers es
later e es h = λ i j d lt below. h (suc i) (suc j) d (omega (arith, lt)) (omega (arith, below))

once_step : (n : ℕ) (e : Entry) (es : List Entry) → HaveDistinctNumbers (e ∷ es) → (c : Bool) → (e.net == n) ≡ c → sum_by (is_net n) es ≤ 1 → sum_by (is_net n) (e ∷ es) ≤ 1
once_step n e es h true t ih =
    let is = eqb-true e.net n t in
    let c = sum_by-cons (is_net n) e es in
    let one = is_net_at n e is in
    let r = none_of_net n es (λ k d below g. h 0 (suc k) d (omega arith) (omega (arith, below)) (is ∙ sym g)) in
    omega (arith, c, one, r)
once_step n e es h false t ih =
    let c = sum_by-cons (is_net n) e es in
    let z : is_net n e ≡ 0 = ap (λ b. cond b 1 0) t in
    omega (arith, c, z, ih)

once_of_distinct : (n : ℕ) (es : List Entry) → HaveDistinctNumbers es → sum_by (is_net n) es ≤ 1
once_of_distinct n [] h = omega arith
once_of_distinct n (e ∷ es) h = once_step n e es h (e.net == n) refl (once_of_distinct n es (later e es h))

distinct_of_once : (es : List Entry) → ((n : ℕ) → sum_by (is_net n) es ≤ 1) → (i j : ℕ) (d : Entry) → i < j → j < length es → (slice_index_or es i d).net ≡ (slice_index_or es j d).net → ⊥
distinct_of_once [] once i j d lt below e = let z : ⊥ = omega (arith, below) in z
distinct_of_once (x ∷ xs) once i zero d lt below e = let z : ⊥ = omega (arith, lt) in z
distinct_of_once (x ∷ xs) once zero (suc j) d lt below e =
    let n = x.net in
    let c = sum_by-cons (is_net n) x xs in
    let o = once n in
    let one = is_net_at n x refl in
    let under : j < length xs = omega (arith, below) in
    let two = get_or-le-sum_by (is_net n) xs j d under in
    let three = is_net_at n (slice_index_or xs j d) (sym e) in
    let z : ⊥ = omega (arith, c, o, one, two, three) in z
distinct_of_once (x ∷ xs) once (suc i) (suc j) d lt below e =
    distinct_of_once xs (λ n. let c = sum_by-cons (is_net n) x xs in let o = once n in omega (arith, c, o)) i j d (omega (arith, lt)) (omega (arith, below)) e

pub distinct_permuted : (xs ys : List Entry) → IsPermutation xs ys → HaveDistinctNumbers xs → HaveDistinctNumbers ys
distinct_permuted xs ys perm h = λ i j d lt below e.
    distinct_of_once ys (λ n. let s = sum_by-IsPermutation (is_net n) xs ys perm in let o = once_of_distinct n xs h in omega (arith, s, o)) i j d lt below e

-- two items with one number are one
pub one_of_number : (items : List Entry) (e f : Entry) → HaveDistinctNumbers items → IsIn e items → IsIn f items → e.net ≡ f.net → e ≡ f
one_of_number [] e f h i j s = absurd i
one_of_number (x ∷ xs) e f h (inl a) (inl b) s = a ∙ sym b
one_of_number (x ∷ xs) e f h (inl a) (inr j) s =
    let w = in_contains xs f j in let b = w.1 in
    absurd (h 0 (suc w.0) f (omega arith) (omega (arith, b)) (ap (λ z. z.net) (sym a) ∙ (s ∙ sym (ap (λ z. z.net) w.2))))
one_of_number (x ∷ xs) e f h (inr i) (inl b) s =
    let w = in_contains xs e i in let k = w.1 in
    absurd (h 0 (suc w.0) e (omega arith) (omega (arith, k)) (ap (λ z. z.net) (sym b) ∙ (sym s ∙ sym (ap (λ z. z.net) w.2))))
one_of_number (x ∷ xs) e f h (inr i) (inr j) s = one_of_number xs e f (λ a b d lt below. h (suc a) (suc b) d (omega (arith, lt)) (omega (arith, below))) i j s
