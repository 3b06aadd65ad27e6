-- Items of lists by their places, lists in which no two items are the same, and what no item passes.
use Rattle.std.proofs.Common.{◌≡◌, inl, inr, refl, sym, ap, ◌∙◌, ℕ, zero, suc, ◌+◌, ◌<◌, Bool, true, false, not, ◌||◌, cond, List, [], ◌∷◌, ◌++◌, length, map, get_or, arith, Some, None, position, nat_lt}
use Rattle.std.specs.Prelude.{filter, flat_map, slice_get}
use Rattle.std.specs.List.{list_any, list_all, position_or_len, range_with_len}
use Rattle.std.proofs.lemmas.Bool.{false≢true, or_parts, and_from}
use Rattle.std.proofs.lemmas.Bool.Decides.{nat_tests}
use Rattle.std.proofs.lemmas.Option.{none-some}
use Rattle.std.proofs.lemmas.List.{map-append}
use Rattle.std.proofs.lemmas.List.Quantifiers.{position-Some}
use Rattle.policy_model.specs.Lists.{numbers_below, once_each}
use Rattle.policy_decls.specs.Names.{first_below}
use Rattle.policy_model.proofs.AllWalks.{IsIn, in_filter, in_numbers, in_map}
use Rattle.list_laws.proofs.Members.{from_filter, filter-append}

-- ---- places

pub at_in : {A : Type 0} (xs : List A) (k : ℕ) (d : A) → k < length xs → IsIn (get_or xs k d) xs
at_in [] k d below = absurd (omega arith)
at_in (x ∷ xs) zero d below = inl refl
at_in (x ∷ xs) (suc k) d below = inr (at_in xs k d (omega arith))

-- what each item of a list has, each place has
pub at_each : {A : Type 0} (P : A → Type 0) (xs : List A) (d : A) → ((x : A) → IsIn x xs → P x) → (k : ℕ) → k < length xs → P (get_or xs k d)
at_each P xs d each k below = each (get_or xs k d) (at_in xs k d below)

pub place_of : {A : Type 0} (x : A) (xs : List A) (d : A) → IsIn x xs → (k : ℕ) × (k < length xs) × (get_or xs k d ≡ x)
place_of x [] d h = absurd h
place_of x (y ∷ ys) d (inl e) = (0, omega arith, sym e)
place_of x (y ∷ ys) d (inr h) = let w = place_of x ys d h in let below = w.1 in (suc w.0, omega arith, w.2)

pub place_get : {A : Type 0} (x : A) (xs : List A) → IsIn x xs → (k : ℕ) × (k < length xs) × (slice_get xs k ≡ Some x)
place_get x [] h = absurd h
place_get x (y ∷ ys) (inl e) = (0, omega arith, ap Some (sym e))
place_get x (y ∷ ys) (inr h) = let w = place_get x ys h in let below = w.1 in (suc w.0, omega arith, w.2)

pub get_in : {A : Type 0} (x : A) (xs : List A) (k : ℕ) → slice_get xs k ≡ Some x → IsIn x xs
get_in x [] k e = absurd (none-some x e)
get_in x (y ∷ ys) zero e = inl (grind arith)
get_in x (y ∷ ys) (suc k) e = inr (get_in x ys k e)

pub all_from : {A : Type 0} (test : A → Bool) (xs : List A) → ((x : A) → IsIn x xs → test x ≡ true) → list_all test xs ≡ true
all_from test [] each = refl
all_from test (x ∷ xs) each = and_from (test x) (list_all test xs) (each x (inl refl)) (all_from test xs (λ y h. each y (inr h)))

-- ---- what no item passes

pub none_passes : {A : Type 0} (test : A → Bool) (xs : List A) → list_any test xs ≡ false → (x : A) → IsIn x xs → test x ≡ false
none_passes test [] e x h = absurd h
none_passes test (y ∷ ys) e x (inl same) = ap test same ∙ (or_parts (test y) (list_any test ys) e).0
none_passes test (y ∷ ys) e x (inr h) = none_passes test ys (or_parts (test y) (list_any test ys) e).1 x h

no_first : {A : Type 0} (xs : List A) → slice_get xs 0 ≡ None → (x : A) → IsIn x xs → ⊥
no_first [] e x h = h
no_first (y ∷ ys) e x h = none-some y (sym e)

by_truth : (b : Bool) → (b ≡ true → ⊥) → b ≡ false
by_truth true h = absurd (h refl)
by_truth false h = refl

pub none_kept : {A : Type 0} (test : A → Bool) (xs : List A) → slice_get (filter test xs) 0 ≡ None → (x : A) → IsIn x xs → test x ≡ false
none_kept test xs e x h = by_truth (test x) (λ t. no_first (filter test xs) e x (in_filter test x xs h t))

pub none_below : (test : ℕ → Bool) (n : ℕ) → first_below test n ≡ None → (k : ℕ) → k < n → test k ≡ false
none_below test n e k below = none_kept test (numbers_below n) e k (in_numbers n k below)

pub in_range : (a n k : ℕ) → IsIn k (range_with_len a n) → k < a + n
in_range a zero k h = absurd h
in_range a (suc n) k (inl e) = omega arith
in_range a (suc n) k (inr h) = let w = in_range (a + 1) n k h in omega arith

pub first_is : (test : ℕ → Bool) (n k : ℕ) → first_below test n ≡ Some k → (k < n) × (test k ≡ true)
first_is test n k e =
    let w = from_filter test k (numbers_below n) (get_in k (filter test (numbers_below n)) 0 e) in
    let below = in_range 0 n k w.0 in (omega (arith, below), w.1)

-- ---- lists in which no two items are the same

-- no item is the same as an earlier one
abbrev pub AreApart : {A : Type 0} → (A → A → Bool) → List A → Type 0
AreApart same [] = Unit {0}
AreApart {A} same (x ∷ xs) = ((y : A) → IsIn y xs → same y x ≡ false) × AreApart same xs

module _ {A : Type 0} (same : A → A → Bool) where
  kept_apart : (test : A → Bool) (x : A) (xs : List A) (b : Bool) → ((y : A) → IsIn y xs → same y x ≡ false) → AreApart same (filter test xs) → AreApart same (cond b (x ∷ filter test xs) (filter test xs))
  kept_apart test x xs true far h = ((λ y g. far y (from_filter test y xs g).0), h)
  kept_apart test x xs false far h = h

  pub filter_apart : (test : A → Bool) (xs : List A) → AreApart same xs → AreApart same (filter test xs)
  filter_apart test [] h = tt
  filter_apart test (x ∷ xs) h = kept_apart test x xs (test x) h.0 (filter_apart test xs h.1)

  -- where what is the same in one way is the same in the other
  pub apart_by : (other : A → A → Bool) (xs : List A) → ((a b : A) → IsIn a xs → IsIn b xs → other a b ≡ true → same a b ≡ true) → AreApart same xs → AreApart other xs
  apart_by other [] agree h = tt
  apart_by other (x ∷ xs) agree h =
      ((λ y g. by_truth (other y x) (λ t. false≢true (sym (h.0 y g) ∙ agree y x (inr g) (inl refl) t))), apart_by other xs (λ a b g k. agree a b (inr g) (inr k)) h.1)

  not_first : (x : A) (xs : List A) (d : A) (m : ℕ) → ((y : A) → IsIn y xs → same y x ≡ false) → m < length xs → same (get_or xs m d) x ≡ true → ⊥
  not_first x xs d m far below t = false≢true (sym (far (get_or xs m d) (at_in xs m d below)) ∙ t)

  pub apart_places : ((a b : A) → same a b ≡ true → same b a ≡ true) → (xs : List A) (d : A) → AreApart same xs → (n m : ℕ) → n < length xs → m < length xs →
      same (get_or xs n d) (get_or xs m d) ≡ true → n ≡ m
  apart_places back [] d h n m low high t = absurd (omega arith)
  apart_places back (x ∷ xs) d h zero zero low high t = refl
  apart_places back (x ∷ xs) d h zero (suc m) low high t = absurd (not_first x xs d m h.0 (omega arith) (back x (get_or xs m d) t))
  apart_places back (x ∷ xs) d h (suc n) zero low high t = absurd (not_first x xs d n h.0 (omega arith) t)
  apart_places back (x ∷ xs) d h (suc n) (suc m) low high t = ap suc (apart_places back xs d h.1 n m (omega arith) (omega arith) t)

pub once_apart : {A : Type 0} (same : A → A → Bool) → ((a b : A) → same a b ≡ true → same b a ≡ true) → (xs : List A) → AreApart same (once_each same xs)
once_apart same back [] = tt
once_apart same back (x ∷ xs) =
    ((λ y g. by_truth (same y x) (λ t. false≢true (sym (left_out y g) ∙ back y x t))), filter_apart same (λ y. not (same x y)) (once_each same xs) (once_apart same back xs))
  where
    positive : (b : Bool) → not b ≡ true → b ≡ false
    positive true e = sym e
    positive false e = refl

    left_out : (y : _) → IsIn y (filter (λ y. not (same x y)) (once_each same xs)) → same x y ≡ false
    left_out y g = positive (same x y) (from_filter (λ y. not (same x y)) y (once_each same xs) g).1

pub map_apart : {A B : Type 0} (same : B → B → Bool) (f : A → B) (xs : List A) → AreApart same (map f xs) → AreApart (λ a b. same (f a) (f b)) xs
map_apart same f [] h = tt
map_apart same f (x ∷ xs) h = ((λ y g. h.0 (f y) (in_map f y xs g)), map_apart same f xs h.1)

-- ---- the first place that passes

module _ {A : Type 0} (p : A → Bool) where
  first_step : (b : Bool) (n l : ℕ) → nat_lt (cond (not b) (1 + n) 0) (1 + l) ≡ (b || nat_lt n l)
  first_step true n l = grind (arith, nat_tests)
  first_step false n l = grind (arith, nat_tests)

  before_end : (xs : List A) → nat_lt (position_or_len p xs) (length xs) ≡ list_any p xs
  before_end [] = refl
  before_end (x ∷ xs) = ap (nat_lt (position_or_len p (x ∷ xs))) same ∙ first_step (p x) (position_or_len p xs) (length xs) ∙ ap (λ b. p x || b) (before_end xs)
    where
      same : length (x ∷ xs) ≡ 1 + length xs
      same = omega arith

  pub position_there : (xs : List A) (d : A) → list_any p xs ≡ true → (i : ℕ) × (position p xs ≡ Some i) × (i < length xs) × (p (get_or xs i d) ≡ true)
  position_there xs d h =
      let i = position_or_len p xs in
      let e : position p xs ≡ Some i = ap (λ b. cond b (Some i) None) (before_end xs ∙ h) in
      let w = position-Some p xs i d e in (i, e, w.0, w.1)

-- ---- lists made of others

-- a filter of what a list of items gives
pub filter_flat_map : {A B : Type 0} (test : B → Bool) (f : A → List B) (xs : List A) → filter test (flat_map f xs) ≡ flat_map (λ x. filter test (f x)) xs
filter_flat_map test f [] = refl
filter_flat_map test f (x ∷ xs) = filter-append test (f x) (flat_map f xs) ∙ ap (λ l. filter test (f x) ++ l) (filter_flat_map test f xs)

pub map_flat_map : {A B C : Type 0} (g : B → C) (f : A → List B) (xs : List A) → map g (flat_map f xs) ≡ flat_map (λ x. map g (f x)) xs
map_flat_map g f [] = refl
map_flat_map g f (x ∷ xs) = map-append g (f x) (flat_map f xs) ∙ ap (λ l. map g (f x) ++ l) (map_flat_map g f xs)

pub flat_map_same : {A B : Type 0} (f g : A → List B) → ((x : A) → f x ≡ g x) → (xs : List A) → flat_map f xs ≡ flat_map g xs
flat_map_same f g e [] = refl
flat_map_same f g e (x ∷ xs) = ap (λ l. l ++ flat_map f xs) (e x) ∙ ap (λ l. g x ++ l) (flat_map_same f g e xs)

pub flat_map_nothing : {A B : Type 0} (f : A → List B) → ((x : A) → f x ≡ []) → (xs : List A) → flat_map f xs ≡ []
flat_map_nothing f e [] = refl
flat_map_nothing f e (x ∷ xs) = ap (λ l. l ++ flat_map f xs) (e x) ∙ flat_map_nothing f e xs
