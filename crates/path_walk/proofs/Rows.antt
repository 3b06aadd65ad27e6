-- Lists of interfaces by number, and what such lists leave out.
use Rattle.std.proofs.Common.{◌≡◌, ℕ, zero, suc, ◌+◌, ◌<◌, Bool, true, false, cond, List, [], ◌∷◌, ◌++◌, map, refl, sym, ap, ◌∙◌, arith}
use Rattle.std.specs.Prelude.{filter, flat_map}
use Rattle.std.specs.List.{range_with_len}
use Rattle.policy_model.specs.Lists.{numbers_below}

none_in_range : (test : ℕ → Bool) (a n : ℕ) → ((i : ℕ) → i < a + n → test i ≡ false) → filter test (range_with_len a n) ≡ []
none_in_range test a zero gone = refl
none_in_range test a (suc n) gone = rw (gone a (omega arith)) (none_in_range test (a + 1) n (λ i h. gone i (omega (arith, h))))

-- where none of the numbers passes, none is kept
pub none_below : (test : ℕ → Bool) (n : ℕ) → ((i : ℕ) → i < n → test i ≡ false) → [] ≡ filter test (numbers_below n)
none_below test n gone = sym (none_in_range test 0 n (λ i h. gone i (omega (arith, h))))

-- What gives nothing may be left out of a list.
pub flat_map_kept : {A B : Type 0} (f : A → List B) (test : A → Bool) (xs : List A) → ((x : A) → test x ≡ false → f x ≡ []) → flat_map f (filter test xs) ≡ flat_map f xs
flat_map_kept f test [] gone = refl
flat_map_kept {A} {B} f test (x ∷ xs) gone = step (flat_map_kept f test xs gone) (test x) refl
  where
    step : flat_map f (filter test xs) ≡ flat_map f xs → (b : Bool) → test x ≡ b → flat_map f (cond b (x ∷ filter test xs) (filter test xs)) ≡ f x ++ flat_map f xs
    step later true e = ap (λ (l : List B). f x ++ l) later
    step later false e = later ∙ sym (ap (λ (l : List B). l ++ flat_map f xs) (gone x e))

-- so may what a later test refuses
pub filter_kept : {A B : Type 0} (keep : B → Bool) (f : A → B) (test : A → Bool) (xs : List A) → ((x : A) → test x ≡ false → keep (f x) ≡ false) →
    filter keep (map f (filter test xs)) ≡ filter keep (map f xs)
filter_kept keep f test [] gone = refl
filter_kept {A} {B} keep f test (x ∷ xs) gone = step (filter_kept keep f test xs gone) (test x) refl
  where
    step : filter keep (map f (filter test xs)) ≡ filter keep (map f xs) → (b : Bool) → test x ≡ b → filter keep (map f (cond b (x ∷ filter test xs) (filter test xs))) ≡ cond (keep (f x)) (f x ∷ filter keep (map f xs)) (filter keep (map f xs))
    step later true e = ap (λ (l : List B). cond (keep (f x)) (f x ∷ l) l) later
    step later false e = later ∙ sym (ap (λ (b : Bool). cond b (f x ∷ filter keep (map f xs)) (filter keep (map f xs))) (gone x e))

-- two tests of which the first implies the second
pub filter_narrower : {A : Type 0} (keep test : A → Bool) (xs : List A) → ((x : A) → test x ≡ false → keep x ≡ false) → filter keep (filter test xs) ≡ filter keep xs
filter_narrower keep test [] gone = refl
filter_narrower {A} keep test (x ∷ xs) gone = step (filter_narrower keep test xs gone) (test x) refl
  where
    step : filter keep (filter test xs) ≡ filter keep xs → (b : Bool) → test x ≡ b → filter keep (cond b (x ∷ filter test xs) (filter test xs)) ≡ cond (keep x) (x ∷ filter keep xs) (filter keep xs)
    step later true e = ap (λ (l : List A). cond (keep x) (x ∷ l) l) later
    step later false e = later ∙ sym (ap (λ (b : Bool). cond b (x ∷ filter keep xs) (filter keep xs)) (gone x e))

pub filter_append : {A : Type 0} (keep : A → Bool) (xs ys : List A) → filter keep (xs ++ ys) ≡ filter keep xs ++ filter keep ys
filter_append keep [] ys = refl
filter_append {A} keep (x ∷ xs) ys = step (filter_append keep xs ys) (keep x)
  where
    step : filter keep (xs ++ ys) ≡ filter keep xs ++ filter keep ys → (b : Bool) → cond b (x ∷ filter keep (xs ++ ys)) (filter keep (xs ++ ys)) ≡ cond b (x ∷ filter keep xs) (filter keep xs) ++ filter keep ys
    step later true = ap (λ (l : List A). x ∷ l) later
    step later false = later

pub map_append : {A B : Type 0} (f : A → B) (xs ys : List A) → map f (xs ++ ys) ≡ map f xs ++ map f ys
map_append f [] ys = refl
map_append {A} {B} f (x ∷ xs) ys = ap (λ (l : List B). f x ∷ l) (map_append f xs ys)

-- what is kept of lists one behind the other
pub filter_flat : {A B C : Type 0} (keep : C → Bool) (g : B → C) (f : A → List B) (xs : List A) →
    filter keep (map g (flat_map f xs)) ≡ flat_map (λ x. filter keep (map g (f x))) xs
filter_flat keep g f [] = refl
filter_flat {A} {B} {C} keep g f (x ∷ xs) =
    ap (λ (l : List C). filter keep l) (map_append g (f x) (flat_map f xs)) ∙ (filter_append keep (map g (f x)) (map g (flat_map f xs))
    ∙ ap (λ (l : List C). filter keep (map g (f x)) ++ l) (filter_flat keep g f xs))

pub map_twice : {A B C : Type 0} (g : B → C) (f : A → B) (xs : List A) → map g (map f xs) ≡ map (λ x. g (f x)) xs
map_twice g f [] = refl
map_twice {A} {B} {C} g f (x ∷ xs) = ap (λ (l : List C). g (f x) ∷ l) (map_twice g f xs)

pub map_same : {A B : Type 0} (f g : A → B) (xs : List A) → ((x : A) → f x ≡ g x) → map f xs ≡ map g xs
map_same f g [] same = refl
map_same {A} {B} f g (x ∷ xs) same = ap (λ (y : B). y ∷ map f xs) (same x) ∙ ap (λ (l : List B). g x ∷ l) (map_same f g xs same)

pub flat_map_same : {A B : Type 0} (f g : A → List B) (xs : List A) → ((x : A) → f x ≡ g x) → flat_map f xs ≡ flat_map g xs
flat_map_same f g [] same = refl
flat_map_same {A} {B} f g (x ∷ xs) same = ap (λ (l : List B). l ++ flat_map f xs) (same x) ∙ ap (λ (l : List B). g x ++ l) (flat_map_same f g xs same)

pub flat_map_none : {A B : Type 0} (f : A → List B) (xs : List A) → ((x : A) → f x ≡ []) → flat_map f xs ≡ []
flat_map_none f [] gone = refl
flat_map_none {A} {B} f (x ∷ xs) gone = ap (λ (l : List B). l ++ flat_map f xs) (gone x) ∙ flat_map_none f xs gone

-- a test that gone item passes
pub filter_none : {A B : Type 0} (keep : B → Bool) (f : A → B) (xs : List A) → ((x : A) → keep (f x) ≡ false) → filter keep (map f xs) ≡ []
filter_none keep f [] gone = refl
filter_none {A} {B} keep f (x ∷ xs) gone = ap (λ (b : Bool). cond b (f x ∷ filter keep (map f xs)) (filter keep (map f xs))) (gone x) ∙ filter_none keep f xs gone
