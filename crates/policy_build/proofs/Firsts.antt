-- Lists of no item, of one, and of more.
use Rattle.std.proofs.Common.{arith, ◌≡◌, ◌∙◌, refl, sym, ap, ℕ, ◌+◌, ◌<◌, ◌≤◌, List, [], ◌∷◌, ◌++◌, length, map, flat_map, drop, get_or, slice_get, Some, None}
use Rattle.std.proofs.lemmas.Option.{none-some}
use Rattle.std.proofs.lemmas.List.{drop_more}
use Rattle.policy_decls.specs.Lookup.{only_one}

pub not_alone : {A B : Type 0} (f : A → B) (xs : List A) → 2 ≤ length xs → only_one (map f xs) ≡ None
not_alone f [] h = refl
not_alone f (x ∷ []) h = absurd (omega arith)
not_alone f (x ∷ y ∷ xs) h = refl

some_first : {A : Type 0} (xs ys : List A) (x : A) → Some x ≡ slice_get xs 0 → Some x ≡ slice_get (xs ++ ys) 0
some_first [] ys x h = absurd (none-some x (sym h))
some_first (y ∷ xs) ys x h = h

none_first : {A : Type 0} (xs ys : List A) → None ≡ slice_get xs 0 → slice_get (xs ++ ys) 0 ≡ slice_get ys 0
none_first [] ys h = refl
none_first (y ∷ xs) ys h = absurd (none-some y h)

-- the first of what the items from a place on give is that of the item there, or of those behind it
module _ {A B C : Type 0} (f : B → List C) (g : A → B) (xs : List A) (i : ℕ) (d : A) (below : i < length xs) where
  pub first_here : (x : C) → Some x ≡ slice_get (f (g (get_or xs i d))) 0 → Some x ≡ slice_get (flat_map f (map g (drop i xs))) 0
  first_here x h = some_first (f (g (get_or xs i d))) (flat_map f (map g (drop (i + 1) xs))) x h ∙ sym (ap (λ l. slice_get (flat_map f (map g l)) 0) (drop_more xs i d below))

  pub first_later : None ≡ slice_get (f (g (get_or xs i d))) 0 → slice_get (flat_map f (map g (drop i xs))) 0 ≡ slice_get (flat_map f (map g (drop (i + 1) xs))) 0
  first_later h = ap (λ l. slice_get (flat_map f (map g l)) 0) (drop_more xs i d below) ∙ none_first (f (g (get_or xs i d))) (flat_map f (map g (drop (i + 1) xs))) h
