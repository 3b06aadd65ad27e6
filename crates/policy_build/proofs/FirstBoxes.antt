-- The first items of lists that grow.
use Rattle.std.proofs.Common.{◌≡◌, ◌∙◌, refl, sym, ap, ℕ, zero, suc, ◌+◌, ◌<◌, ◌≤◌, length, drop, take, get_or, List, [], ◌∷◌, ◌++◌, map, flat_map, append_assoc, append-nil, Result, Ok, Err, OnOk}
use Rattle.std.proofs.lemmas.List.{drop_more, take-append-le}

pub map_take : {A B : Type 0} (f : A → B) (n : ℕ) (xs : List A) → map f (take n xs) ≡ take n (map f xs)
map_take f zero xs = refl
map_take f (suc n) [] = refl
map_take f (suc n) (x ∷ xs) = ap (λ l. f x ∷ l) (map_take f n xs)

module _ {A : Type 0} (n : ℕ) where
  -- the first items of a list with more behind it depend on the first items of the list alone
  first_twice : (k : ℕ) (xs more : List A) → take k (take k xs ++ more) ≡ take k (xs ++ more)
  first_twice zero xs more = refl
  first_twice (suc k) [] more = refl
  first_twice (suc k) (x ∷ xs) more = ap (λ l. x ∷ l) (first_twice k xs more)

  pub first_grown : (xs ys more : List A) → take n xs ≡ take n ys → take n (xs ++ more) ≡ take n (ys ++ more)
  first_grown xs ys more e = sym (first_twice n xs more) ∙ ap (λ l. take n (l ++ more)) e ∙ first_twice n ys more

  pub full : (old more : List A) → n ≤ length old → take n old ≡ take n (old ++ more)
  full old more h = sym (take-append-le n old more h)

  module _ {E : Type 0} where
    pub first_same : (r : Result (Unit {0}) E) (now old more other : List A) → OnOk r (take n now ≡ take n (old ++ more)) → more ≡ other → OnOk r (take n now ≡ take n (old ++ other))
    first_same (Ok u) now old more other h e = h ∙ ap (λ l. take n (old ++ l)) e
    first_same (Err x) now old more other h e = h

    pub first_of : (r : Result (Unit {0}) E) (now old more : List A) → OnOk r (now ≡ old ++ more) → OnOk r (take n now ≡ take n (old ++ more))
    first_of (Ok u) now old more h = ap (take n) h
    first_of (Err x) now old more h = h

  -- a list that grows by what each item in turn is mapped to, as far as its first items go
  pub first_more : {B C : Type 0} (g : B → List A) (f : C → B) (xs : List C) (i : ℕ) (d : C) → i < length xs → (old now all : List A) → take n (old ++ flat_map g (map f (drop i xs))) ≡ all → take n now ≡ take n (old ++ g (f (get_or xs i d))) →
      take n (now ++ flat_map g (map f (drop (i + 1) xs))) ≡ all
  first_more g f xs i d l old now all e h =
      first_grown now (old ++ g (f (get_or xs i d))) (flat_map g (map f (drop (i + 1) xs))) h
      ∙ ap (take n) (append_assoc old (g (f (get_or xs i d))) (flat_map g (map f (drop (i + 1) xs)))) ∙ ap (λ ys. take n (old ++ flat_map g (map f ys))) (sym (drop_more xs i d l)) ∙ e
