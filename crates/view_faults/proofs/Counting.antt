-- How many rows differ, counted one after the other.
use Rattle.std.proofs.Common.{◌≡◌, ◌∙◌, refl, sym, ap, ℕ, ◌+◌, ◌<◌, ◌≤◌, Bool, true, false, not, ◌&&◌, ◌||◌, cond, List, [], ◌∷◌, ◌++◌, length, map, filter, take, drop, append-nil, append_assoc, arith}
use Rattle.std.specs.Prelude.{◌==◌, slice_index_or}
use Rattle.std.specs.List.{list_any}
use Rattle.std.specs.Cmp.Lexicographic.{pointwise}
use Rattle.std.proofs.lemmas.Bool.{and_parts, eqb-true, eq-eqb, false≢true}
use Rattle.std.proofs.lemmas.List.{map-append, length-append, length_push, take_more}
use Rattle.std.proofs.lemmas.List.Elements.{filter-append}
use Rattle.std.proofs.lemmas.List.{take-append-drop}
use Rattle.std.proofs.lemmas.Map.Views.{any-filter_same}
use Rattle.spoc_base.specs.declared.ids.TagId.{TagId}
use Rattle.policy_model.specs.Lists.{once_each}
use Rattle.policy_model.specs.Tags.{Views}
use Rattle.policy_model.specs.Faults.{same_numbers, all_views, view_count}

-- ---- each item once

pushed : {A : Type 0} (b : Bool) (zs : List A) (y : A) → (zs ++ cond b (y ∷ []) []) ≡ cond b (zs ++ y ∷ []) zs
pushed true zs y = refl
pushed false zs y = append-nil zs

filter_push : {A : Type 0} (f : A → Bool) (xs : List A) (y : A) → filter f (xs ++ y ∷ []) ≡ cond (f y) (filter f xs ++ y ∷ []) (filter f xs)
filter_push f xs y = filter-append f xs (y ∷ []) ∙ pushed (f y) (filter f xs) y

module _ {A : Type 0} (same : A → A → Bool) where
  filter_once : (x y : A) (ys : List A) (b c : Bool) → same x y ≡ c → filter (λ z. not (same x z)) (cond b ys (ys ++ y ∷ [])) ≡ cond (c || b) (filter (λ z. not (same x z)) ys) (filter (λ z. not (same x z)) ys ++ y ∷ [])
  filter_once x y ys true true e = refl
  filter_once x y ys true false e = refl
  filter_once x y ys false true e = filter_push (λ z. not (same x z)) ys y ∙ ap (λ c. cond (not c) (filter (λ z. not (same x z)) ys ++ y ∷ []) (filter (λ z. not (same x z)) ys)) e
  filter_once x y ys false false e = filter_push (λ z. not (same x z)) ys y ∙ ap (λ c. cond (not c) (filter (λ z. not (same x z)) ys ++ y ∷ []) (filter (λ z. not (same x z)) ys)) e

  cons_cond : (b : Bool) (x : A) (ys zs : List A) → (x ∷ cond b ys zs) ≡ cond b (x ∷ ys) (x ∷ zs)
  cons_cond true x ys zs = refl
  cons_cond false x ys zs = refl

  once_push : (xs : List A) (y : A) → once_each same (xs ++ y ∷ []) ≡ cond (list_any (λ x. same x y) xs) (once_each same xs) (once_each same xs ++ y ∷ [])
  once_push [] y = refl
  once_push (x ∷ xs) y =
      ap (λ ys. x ∷ filter (λ z. not (same x z)) ys) (once_push xs y) ∙ ap (λ ys. x ∷ ys) (filter_once x y (once_each same xs) (list_any (λ x. same x y) xs) (same x y) refl)
      ∙ cons_cond (same x y || list_any (λ x. same x y) xs) x (filter (λ z. not (same x z)) (once_each same xs)) (filter (λ z. not (same x z)) (once_each same xs) ++ y ∷ [])

  longer_cond : (b : Bool) (xs : List A) (y : A) → length xs ≤ length (cond b xs (xs ++ y ∷ []))
  longer_cond true xs y = omega arith
  longer_cond false xs y = let n = length_push xs y in omega (arith, n)

  -- no fewer items differ in a longer list
  pub once_longer : (xs ys : List A) → length (once_each same xs) ≤ length (once_each same (xs ++ ys))
  once_longer xs [] = let e = ap (λ l. length (once_each same l)) (append-nil xs) in omega (arith, e)
  once_longer xs (y ∷ ys) =
      let one = longer_cond (list_any (λ x. same x y) xs) (once_each same xs) y in
      let e = ap (λ l. length l) (once_push xs y) in
      let rest = once_longer (xs ++ y ∷ []) ys in
      let f = ap (λ l. length (once_each same l)) (append_assoc xs (y ∷ []) ys) in
      omega (arith, one, e, rest, f)

  module _ (p : A → Bool) (alike : (x z : A) → same x z ≡ true → p x ≡ p z) where
    apart : (x z : A) (b : Bool) → same x z ≡ b → p x ≡ false → p z ≡ true → not b ≡ true
    apart x z true e miss hit = sym miss ∙ alike x z e ∙ hit
    apart x z false e miss hit = refl

    any_without : (x : A) (ys : List A) (b : Bool) → p x ≡ b → (b || list_any p (filter (λ z. not (same x z)) ys)) ≡ (b || list_any p ys)
    any_without x ys true e = refl
    any_without x ys false e = any-filter_same p (λ z. not (same x z)) true (λ z hit. apart x z (same x z) refl e hit) ys

    once_any : (xs : List A) → list_any p (once_each same xs) ≡ list_any p xs
    once_any [] = refl
    once_any (x ∷ xs) = any_without x (once_each same xs) (p x) refl ∙ ap (λ r. p x || r) (once_any xs)

-- ---- rows of numbers

same_is : (xs ys : List ℕ) → same_numbers xs ys ≡ true → xs ≡ ys
same_is [] [] e = refl
same_is [] (y ∷ ys) e = absurd (false≢true e)
same_is (x ∷ xs) [] e = absurd (false≢true e)
same_is (x ∷ xs) (y ∷ ys) e =
    let w = and_parts (x == y) (same_numbers xs ys) e in
    ap (λ z. z ∷ xs) (eqb-true x y w.0) ∙ ap (λ zs. y ∷ zs) (same_is xs ys w.1)

abbrev pub numbers_of : List TagId → List ℕ
numbers_of row = map (λ tag. tag.0) row

eqb_sym : (a b : ℕ) → (a == b) ≡ (b == a)
eqb_sym a b = go (a == b) (b == a) refl refl
  where
    go : (c d : Bool) → (a == b) ≡ c → (b == a) ≡ d → c ≡ d
    go true true e f = refl
    go false false e f = refl
    go true false e f = sym (eq-eqb b a (sym (eqb-true a b e))) ∙ f
    go false true e f = sym (sym (eq-eqb a b (sym (eqb-true b a f))) ∙ e)

-- the rows are compared the other way round
same_rows : (xs ys : List TagId) → pointwise (λ a b. a.0 == b.0) xs ys ≡ same_numbers (numbers_of ys) (numbers_of xs)
same_rows [] [] = refl
same_rows [] (y ∷ ys) = refl
same_rows (x ∷ xs) [] = refl
same_rows (x ∷ xs) (y ∷ ys) = ap (λ b. b && pointwise (λ a b. a.0 == b.0) xs ys) (eqb_sym x.0 y.0) ∙ ap (λ b. (y.0 == x.0) && b) (same_rows xs ys)

module _ {K : Type 0} (items : K → List TagId) where
  abbrev seen : K → List ℕ
  seen k = numbers_of (items k)

  any_row : (key : K) (keys : List K) → list_any (λ k. pointwise (λ a b. a.0 == b.0) (items key) (items k)) keys ≡ list_any (λ x. same_numbers x (seen key)) (map seen keys)
  any_row key [] = refl
  any_row key (k ∷ keys) =
      ap (λ b. b || list_any (λ k. pointwise (λ a b. a.0 == b.0) (items key) (items k)) keys) (same_rows (items key) (items k)) ∙ ap (λ b. same_numbers (seen k) (seen key) || b) (any_row key keys)

  map_cond : (b : Bool) (keys : List K) (key : K) → map seen (cond b keys (keys ++ key ∷ [])) ≡ cond b (map seen keys) (map seen keys ++ seen key ∷ [])
  map_cond true keys key = refl
  map_cond false keys key = map-append seen keys (key ∷ [])

  -- one row more
  pub row_added : (keys : List K) (key : K) (rows : List (List ℕ)) → map seen keys ≡ once_each same_numbers rows →
      map seen (cond (list_any (λ k. pointwise (λ a b. a.0 == b.0) (items key) (items k)) keys) keys (keys ++ key ∷ [])) ≡ once_each same_numbers (rows ++ seen key ∷ [])
  row_added keys key rows e =
      let test : List ℕ → Bool = λ x. same_numbers x (seen key) in
      let there : list_any (λ k. pointwise (λ a b. a.0 == b.0) (items key) (items k)) keys ≡ list_any test rows =
      any_row key keys ∙ ap (list_any test) e ∙ once_any same_numbers test (λ x z h. ap test (same_is x z h)) rows in
      map_cond (list_any (λ k. pointwise (λ a b. a.0 == b.0) (items key) (items k)) keys) keys key
      ∙ ap (λ b. cond b (map seen keys) (map seen keys ++ seen key ∷ [])) there
      ∙ ap (λ l. cond (list_any test rows) l (l ++ seen key ∷ [])) e
      ∙ sym (once_push same_numbers rows (seen key))

-- ---- the first views

module _ (v : Views) where
  -- one view more is seen
  pub seen_more : (old new : List (List ℕ)) (row : List ℕ) (k : ℕ) → old ≡ once_each same_numbers (take k (all_views v)) → k < length v.zones + length v.routers → row ≡ slice_index_or (all_views v) k [] →
      ((rows : List (List ℕ)) → old ≡ once_each same_numbers rows → new ≡ once_each same_numbers (rows ++ row ∷ [])) → new ≡ once_each same_numbers (take (k + 1) (all_views v))
  seen_more old new row k so_far below is more =
      let n = length-append v.zones v.routers in
      more (take k (all_views v)) so_far
      ∙ ap (once_each same_numbers) (ap (λ x. take k (all_views v) ++ x ∷ []) is ∙ sym (take_more (all_views v) k [] (omega (arith, below, n))))

  -- no more differ among the first views than among all
  pub seen_few : (seen : List (List ℕ)) (k : ℕ) → seen ≡ once_each same_numbers (take k (all_views v)) → length seen ≤ view_count v
  seen_few seen k so_far =
      let e = ap (λ (rows : List (List ℕ)). length rows) so_far in
      let longer = once_longer same_numbers (take k (all_views v)) (drop k (all_views v)) in
      let f = ap (λ rows. length (once_each same_numbers rows)) (take-append-drop k (all_views v)) in
      omega (arith, e, longer, f)
