-- Lists with one item, and lists that are seen item by item.
use Rattle.std.proofs.Common.{arith, ◌≡◌, ◌∙◌, refl, sym, ap, ℕ, ◌+◌, ◌<◌, ◌==◌, Bool, true, false, ◌||◌, List, [], ◌∷◌, ◌++◌, length, map, drop, get_or, slice_get, None, add-one, drop-cons}
use Rattle.std.specs.List.{list_any}
use Rattle.std.proofs.lemmas.List.Folds.{list_any-append}
use Rattle.policy_model.specs.Lists.{is_nothing}
use Rattle.policy_decls.specs.Lookup.{only_one}

-- the only item is the first one
pub only_first : {A : Type 0} (xs : List A) → length xs ≡ 1 → only_one xs ≡ slice_get xs 0
only_first [] h = refl
only_first (x ∷ []) h = refl
only_first (x ∷ y ∷ xs) h = absurd (omega arith)

pub only_not : {A : Type 0} (xs : List A) (b : Bool) → (length xs == 1) ≡ b → b ≡ false → only_one xs ≡ None
only_not [] b e f = refl
only_not (x ∷ []) b e f = absurd (grind arith)
only_not (x ∷ y ∷ xs) b e f = refl

pub nothing_counted : {A : Type 0} (xs : List A) → is_nothing xs ≡ (length xs == 0)
nothing_counted [] = refl
nothing_counted (x ∷ xs) = grind arith

pub any_of_both : {A : Type 0} (test : A → Bool) (xs ys : List A) → list_any test (xs ++ ys) ≡ (list_any test xs || list_any test ys)
any_of_both test xs ys = list_any-append test xs ys

-- a walk over items for the first that passes a test
module _ {A B : Type 0} (test : A → Bool) (seen : B → A) (xs : List B) (i : ℕ) (d : B) (within : i < length xs) (goal : Bool) (known : list_any test (map seen (drop i xs)) ≡ goal) where
  head : map seen (drop i xs) ≡ seen (get_or xs i d) ∷ map seen (drop (i + 1) xs)
  head = rw (add-one, drop-cons xs i d within) refl

  pub any_here : test (seen (get_or xs i d)) ≡ true → true ≡ goal
  any_here e = ap (λ b. b || list_any test (map seen (drop (i + 1) xs))) (sym e) ∙ ap (list_any test) (sym head) ∙ known

  pub any_step : test (seen (get_or xs i d)) ≡ false → list_any test (map seen (drop (i + 1) xs)) ≡ goal
  any_step e = ap (λ b. b || list_any test (map seen (drop (i + 1) xs))) (sym e) ∙ ap (list_any test) (sym head) ∙ known
