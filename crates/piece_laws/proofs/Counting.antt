-- How often a test holds in a list, and what holds of each item.
use Rattle.std.proofs.Common.{◌≡◌, ◌≢◌, ℕ, zero, suc, ◌+◌, ◌<◌, ◌≤◌, inl, inr, Bool, true, false, cond, ◌&&◌, ◌||◌, List, [], ◌∷◌, ◌++◌, length, length-append, map, refl, sym, ap, subst, ◌∙◌, ⊎_elim, arith}
use Rattle.std.specs.Prelude.{flat_map}
use Rattle.std.specs.List.{list_any, range_with_len, All}
use Rattle.std.proofs.lemmas.Bool.{cases_eq}
use Rattle.std.proofs.lemmas.List.Elements.{All-nil, All-cons}
use Rattle.policy_model.proofs.AllWalks.{IsIn}

abbrev pub bit : Bool → ℕ
bit b = cond b 1 0

abbrev pub times : {A : Type 0} → (A → Bool) → List A → ℕ
times p [] = 0
times p (x ∷ xs) = bit (p x) + times p xs

abbrev pub total : {A : Type 0} → (A → ℕ) → List A → ℕ
total g [] = 0
total g (x ∷ xs) = g x + total g xs

pub times-append : {A : Type 0} (p : A → Bool) (xs ys : List A) → times p (xs ++ ys) ≡ times p xs + times p ys
times-append p [] ys = omega arith
times-append p (x ∷ xs) ys = let e = times-append p xs ys in omega (arith, e)

pub times-map : {A B : Type 0} (p : B → Bool) (f : A → B) (xs : List A) → times p (map f xs) ≡ times (λ x. p (f x)) xs
times-map p f [] = refl
times-map p f (x ∷ xs) = ap (λ n. bit (p (f x)) + n) (times-map p f xs)

pub times-flat_map : {A B : Type 0} (p : B → Bool) (f : A → List B) (xs : List A) → times p (flat_map f xs) ≡ total (λ x. times p (f x)) xs
times-flat_map p f [] = refl
times-flat_map p f (x ∷ xs) = times-append p (f x) (flat_map f xs) ∙ ap (λ n. times p (f x) + n) (times-flat_map p f xs)

pub length-flat_map : {A B : Type 0} (f : A → List B) (xs : List A) → length (flat_map f xs) ≡ total (λ x. length (f x)) xs
length-flat_map f [] = refl
length-flat_map f (x ∷ xs) = length-append (f x) (flat_map f xs) ∙ ap (λ n. length (f x) + n) (length-flat_map f xs)

bit_and_then : (x c : Bool) → bit (x && c) ≡ cond c (bit x) 0
bit_and_then true true = refl
bit_and_then true false = refl
bit_and_then false true = refl
bit_and_then false false = refl

cond_sum : (c : Bool) (m n : ℕ) → cond c m 0 + cond c n 0 ≡ cond c (m + n) 0
cond_sum true m n = refl
cond_sum false m n = refl

cond_none : (c : Bool) → ◌≡◌ {A = ℕ} 0 (cond c 0 0)
cond_none true = refl
cond_none false = refl

pub times_and : {A : Type 0} (p : A → Bool) (c : Bool) (xs : List A) → times (λ x. p x && c) xs ≡ cond c (times p xs) 0
times_and p c [] = cond_none c
times_and p c (x ∷ xs) = ap (λ n. n + times (λ y. p y && c) xs) (bit_and_then (p x) c) ∙ (ap (λ n. cond c (bit (p x)) 0 + n) (times_and p c xs) ∙ cond_sum c (bit (p x)) (times p xs))

pub times_same : {A : Type 0} (p q : A → Bool) (xs : List A) → ((x : A) → p x ≡ q x) → times p xs ≡ times q xs
times_same p q [] h = refl
times_same p q (x ∷ xs) h = ap (λ b. bit b + times p xs) (h x) ∙ ap (λ n. bit (q x) + n) (times_same p q xs h)

and_swap : (x c : Bool) → (c && x) ≡ (x && c)
and_swap true true = refl
and_swap true false = refl
and_swap false true = refl
and_swap false false = refl

pub times_and_before : {A : Type 0} (p : A → Bool) (c : Bool) (xs : List A) → times (λ x. c && p x) xs ≡ cond c (times p xs) 0
times_and_before p c xs = times_same (λ x. c && p x) (λ x. p x && c) xs (λ x. and_swap (p x) c) ∙ times_and p c xs

-- ---- sums over numbers in turn

pub total_none : (g : ℕ → ℕ) (a n : ℕ) → ((k : ℕ) → a ≤ k → g k ≡ 0) → total g (range_with_len a n) ≡ 0
total_none g a zero h = refl
total_none g a (suc n) h = let e = h a (omega arith) in let f = total_none g (a + 1) n (λ k le. h k (omega arith)) in omega (arith, e, f)

-- where one number alone counts
pub total_one : (g : ℕ → ℕ) (a n k : ℕ) → a ≤ k → k < a + n → ((m : ℕ) → m ≢ k → g m ≡ 0) → total g (range_with_len a n) ≡ g k
total_one g a zero k low high h = absurd (omega arith)
total_one g a (suc n) k low high h =
    ⊎_elim
    (λ (e : a ≡ k). let f = total_none g (a + 1) n (λ m le. h m (omega (arith, e))) in let p = ap g e in omega (arith, p, f))
    (λ ne. let e = h a ne in let f = total_one g (a + 1) n k (omega arith) (omega arith) h in omega (arith, e, f))
    (cases_eq a k)

total_ones : (g : ℕ → ℕ) (a n : ℕ) → ((k : ℕ) → a ≤ k → g k ≤ 1) → total g (range_with_len a n) ≤ n
total_ones g a zero h = omega arith
total_ones g a (suc n) h = let e = h a (omega arith) in let f = total_ones g (a + 1) n (λ k le. h k (omega arith)) in omega (arith, e, f)

-- where each number but one counts at most once
pub total_most : (g : ℕ → ℕ) (a n k most : ℕ) → a ≤ k → k < a + n → ((m : ℕ) → m ≢ k → g m ≤ 1) → g k ≤ most → total g (range_with_len a n) + 1 ≤ n + most
total_most g a zero k most low high h top = absurd (omega arith)
total_most g a (suc n) k most low high h top =
    ⊎_elim
    (λ (e : a ≡ k). let f = total_ones g (a + 1) n (λ m le. h m (omega (arith, e))) in let p = ap g e in omega (arith, p, f, top))
    (λ ne. let e = h a ne in let f = total_most g (a + 1) n k most (omega arith) (omega arith) h top in omega (arith, e, f))
    (cases_eq a k)

-- ---- at most once

pub times_in : {A : Type 0} (p : A → Bool) (x : A) (xs : List A) → IsIn x xs → p x ≡ true → 1 ≤ times p xs
times_in p x [] h t = absurd h
times_in p x (y ∷ ys) (inl e) t = let f : bit (p y) ≡ 1 = ap (λ z. bit (p z)) (sym e) ∙ ap bit t in omega (arith, f)
times_in p x (y ∷ ys) (inr h) t = let f = times_in p x ys h t in omega (arith, f)

pub any_is : {A : Type 0} (p : A → Bool) (xs : List A) (c : Bool) → times p xs ≡ bit c → list_any p xs ≡ c
any_is p [] true e = absurd (let z : ⊥ = omega (arith, e) in z)
any_is p [] false e = refl
any_is p (x ∷ xs) c e = or_is (p x) (list_any p xs) c (times p xs) e (any_is p xs)
  where
    or_is : (b r c : Bool) (n : ℕ) → bit b + n ≡ bit c → ((d : Bool) → n ≡ bit d → r ≡ d) → (b || r) ≡ c
    or_is true r true n e f = refl
    or_is true r false n e f = absurd (let z : ⊥ = omega (arith, e) in z)
    or_is false r c n e f = f c (omega (arith, e))

-- ---- what holds of each

abbrev pub Each : {A : Type 0} → (A → Type 0) → List A → Type 0
Each P [] = Unit {0}
Each P (x ∷ xs) = P x × Each P xs

pub each-append : {A : Type 0} (P : A → Type 0) (xs ys : List A) → Each P xs → Each P ys → Each P (xs ++ ys)
each-append P [] ys h g = g
each-append P (x ∷ xs) ys h g = (h.0, each-append P xs ys h.1 g)

pub each-map : {A B : Type 0} (P : A → Type 0) (Q : B → Type 0) (f : A → B) (xs : List A) → ((x : A) → P x → Q (f x)) → Each P xs → Each Q (map f xs)
each-map P Q f [] h g = tt
each-map P Q f (x ∷ xs) h g = (h x g.0, each-map P Q f xs h g.1)

pub each_of_range : {B : Type 0} (P : B → Type 0) (f : ℕ → List B) (a n : ℕ) → ((k : ℕ) → a ≤ k → k < a + n → Each P (f k)) → Each P (flat_map f (range_with_len a n))
each_of_range P f a zero h = tt
each_of_range P f a (suc n) h = each-append P (f a) (flat_map f (range_with_len (a + 1) n)) (h a (omega arith) (omega arith)) (each_of_range P f (a + 1) n (λ k low high. h k (omega arith) (omega arith)))

pub all_of_each : {A : Type 0} (P : A → Type 0) (xs : List A) → Each P xs → All P xs
all_of_each P [] h = All-nil P
all_of_each P (x ∷ xs) h = All-cons P x xs h.0 (all_of_each P xs h.1)

pub each_in : {A : Type 0} (P : A → Type 0) (xs : List A) (x : A) → Each P xs → IsIn x xs → P x
each_in P [] x h i = absurd i
each_in P (y ∷ ys) x h (inl e) = subst P (sym e) h.0
each_in P (y ∷ ys) x h (inr i) = each_in P ys x h.1 i

pub each_from : {A : Type 0} (P : A → Type 0) (xs : List A) → ((x : A) → IsIn x xs → P x) → Each P xs
each_from P [] h = tt
each_from P (x ∷ xs) h = (h x (inl refl), each_from P xs (λ y i. h y (inr i)))
