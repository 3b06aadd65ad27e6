-- Tests of the items of a mapped list.
use Rattle.std.proofs.Common.{arith, ◌≡◌, refl, ap, ◌||◌, Bool, List, [], ◌∷◌, map, position, cond, nat_lt, Some, None, sym}
use Rattle.std.proofs.lemmas.List.{length-map}
use Rattle.std.specs.List.{list_any, position_or_len}

module _ {A B : Type 0} (test : B → Bool) (f : A → B) where
  position_or_len_map : (xs : List A) → position_or_len (λ x. test (f x)) xs ≡ position_or_len test (map f xs)
  position_or_len_map [] = refl
  position_or_len_map (x ∷ xs) = Prim.grind (arith, position_or_len_map xs)

  pub position_map : (xs : List A) → position (λ x. test (f x)) xs ≡ position test (map f xs)
  position_map xs i = cond (nat_lt (position_or_len_map xs i) (sym (length-map xs f) i)) (Some (position_or_len_map xs i)) None

  pub list_any_map : (xs : List A) → list_any (λ x. test (f x)) xs ≡ list_any test (map f xs)
  list_any_map [] = refl
  list_any_map (x ∷ xs) = ap (λ b. test (f x) || b) (list_any_map xs)
