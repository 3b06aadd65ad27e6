-- Tests of items of lists.
use Rattle.std.proofs.Common.{arith, ◌≡◌, ◌∙◌, refl, sym, ap, ℕ, ◌<◌, Bool, true, false, ◌&&◌, ◌||◌, eqb, nat_lt, List, [], ◌∷◌}
use Rattle.std.specs.List.{list_any, list_all}
use Rattle.std.proofs.lemmas.Bool.Decides.{nat_tests}
use Rattle.policy_nesting.specs.Graph.{holds}

pub and_first : (a b : Bool) → (a && b) ≡ true → a ≡ true
and_first true b e = refl
and_first false b e = e

pub and_second : (a b : Bool) → (a && b) ≡ true → b ≡ true
and_second true b e = e
and_second false b e = absurd (cc)

pub both : (a b : Bool) → a ≡ true → b ≡ true → (a && b) ≡ true
both true b e h = h
both false b e h = e

pub or_first : (a b : Bool) → a ≡ true → (a || b) ≡ true
or_first true b e = refl
or_first false b e = absurd (cc)

pub or_second : (a b : Bool) → b ≡ true → (a || b) ≡ true
or_second true b e = refl
or_second false b e = e

pub either : {P : Type 0} (a b : Bool) → (a || b) ≡ true → (a ≡ true → P) → (b ≡ true → P) → P
either true b e f g = f refl
either false b e f g = g e

pub same_number : (a b : ℕ) → eqb a b ≡ true → a ≡ b
same_number a b e = grind (arith, nat_tests)

pub own_number : (a : ℕ) → eqb a a ≡ true
own_number a = grind (arith, nat_tests)

pub below : (a b : ℕ) → nat_lt a b ≡ true → a < b
below a b e = grind (arith, nat_tests)

module _ {A : Type 0} (p q : A → Bool) where
  pub any_then : ((x : A) → p x ≡ true → q x ≡ true) → (xs : List A) → list_any p xs ≡ true → list_any q xs ≡ true
  any_then h [] e = e
  any_then h (x ∷ xs) e = either (p x) (list_any p xs) e (λ d. or_first (q x) (list_any q xs) (h x d)) (λ d. or_second (q x) (list_any q xs) (any_then h xs d))

  pub all_then : ((x : A) → p x ≡ true → q x ≡ true) → (xs : List A) → list_all p xs ≡ true → list_all q xs ≡ true
  all_then h [] e = e
  all_then h (x ∷ xs) e = both (q x) (list_all q xs) (h x (and_first (p x) (list_all p xs) e)) (all_then h xs (and_second (p x) (list_all p xs) e))

  pub any_same : (f : A → Bool) → ((x : A) → f x ≡ true → p x ≡ q x) → (xs : List A) → list_all f xs ≡ true → list_any p xs ≡ list_any q xs
  any_same f h [] e = refl
  any_same f h (x ∷ xs) e =
      ap (λ b. b || list_any p xs) (h x (and_first (f x) (list_all f xs) e)) ∙ ap (λ b. q x || b) (any_same f h xs (and_second (f x) (list_all f xs) e))

  -- where all pass the first test and one the second, and one that passes both gives the goal
  pub any_all : {P : Type 0} → (xs : List A) → list_all p xs ≡ true → list_any q xs ≡ true → ((x : A) → p x ≡ true → q x ≡ true → P) → P
  any_all [] e d h = absurd (cc)
  any_all (x ∷ xs) e d h =
      either (q x) (list_any q xs) d (λ g. h x (and_first (p x) (list_all p xs) e) g) (λ g. any_all xs (and_second (p x) (list_all p xs) e) g h)

pub holds_at : (p : ℕ → Bool) (xs : List ℕ) (k : ℕ) → holds xs k ≡ true → p k ≡ true → list_any p xs ≡ true
holds_at p xs k e h = any_then (λ j. eqb j k) p (λ j d. ap p (same_number j k d) ∙ h) xs e

pub all_at : (p : ℕ → Bool) (xs : List ℕ) (k : ℕ) → list_all p xs ≡ true → holds xs k ≡ true → p k ≡ true
all_at p xs k e h = any_all p (λ j. eqb j k) xs e h (λ j d g. ap p (sym (same_number j k g)) ∙ d)
