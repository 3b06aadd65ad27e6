-- Loops that gather sets from the items of a list.
use Rattle.std.proofs.Common.{◌≡◌, ℕ, zero, suc, ◌+◌, ◌<◌, ◌≤◌, List, [], ◌∷◌, ◌++◌, length, drop, refl, sym, ap, ◌∙◌, arith, slice_index_or}
use Rattle.std.specs.Prelude.{Result, Ok, Err, IfOk}
use Rattle.policy_model.specs.Objects.{Object, object_set}
use Rattle.group_expand.specs.Sets.{with_objects}
use Rattle.group_expand.proofs.SetLaws.{gathered, grown_by_both}

pub if_ok : {A E : Type 0} (r : Result A E) (P Q : A → Type 0) → ((x : A) → P x → Q x) → IfOk r P → IfOk r Q
if_ok (Ok x) P Q all h = all x h
if_ok (Err e) P Q all h = h

module _ {A : Type 0} where
  pub left_at : (xs : List A) (k : ℕ) (d : A) → k < length xs → drop k xs ≡ slice_index_or xs k d ∷ drop (k + 1) xs
  left_at [] k d h = absurd (omega (arith, h))
  left_at (x ∷ xs) zero d h = refl
  left_at (x ∷ xs) (suc k) d h =
      let e : suc k + 1 ≡ suc (k + 1) = omega arith in
      left_at xs k d (omega (arith, h)) ∙ ap (λ (m : ℕ). slice_index_or xs k d ∷ drop m (x ∷ xs)) (sym e)

  pub nothing_left : (xs : List A) (k : ℕ) → length xs ≤ k → drop k xs ≡ []
  nothing_left [] zero h = refl
  nothing_left [] (suc k) h = refl
  nothing_left (x ∷ xs) zero h = absurd (omega (arith, h))
  nothing_left (x ∷ xs) (suc k) h = nothing_left xs k (omega (arith, h))

  module _ (F : List A → List Object) (f : A → List Object) (next : (x : A) (xs : List A) → F (x ∷ xs) ≡ f x ++ F xs) where
    -- one item more
    pub item_more : (xs : List A) (k : ℕ) (d : A) (old new all : List Object) → k < length xs → new ≡ with_objects old (f (slice_index_or xs k d)) → with_objects old (F (drop k xs)) ≡ all →
        with_objects new (F (drop (k + 1) xs)) ≡ all
    item_more xs k d old new all h e so_far =
        ap (λ (l : List Object). with_objects l (F (drop (k + 1) xs))) e
        ∙ (sym (grown_by_both old (f (slice_index_or xs k d)) (F (drop (k + 1) xs)))
        ∙ (ap (with_objects old) (sym (ap F (left_at xs k d h) ∙ next (slice_index_or xs k d) (drop (k + 1) xs))) ∙ so_far))

  pub items_end : (F : List A → List Object) (xs : List A) (k : ℕ) (found all : List Object) → F [] ≡ [] → length xs ≤ k → with_objects found (F (drop k xs)) ≡ all → found ≡ all
  items_end F xs k found all none h so_far = sym (ap (λ (l : List A). with_objects found (F l)) (nothing_left xs k h) ∙ ap (with_objects found) none) ∙ so_far

  pub set_end : (F : List A → List Object) (xs : List A) (k : ℕ) (found : List Object) → F [] ≡ [] → length xs ≤ k → with_objects found (F (drop k xs)) ≡ with_objects [] (F xs) → found ≡ object_set (F xs)
  set_end F xs k found none h so_far = items_end F xs k found (with_objects [] (F xs)) none h so_far ∙ gathered (F xs)
