-- Lists in which each item stands in a relation to all later ones.
use Rattle.std.proofs.Common.{◌≡◌, ℕ, zero, suc, ◌+◌, ◌<◌, ◌⊎◌, inl, inr, Bool, true, false, cond, List, [], ◌∷◌, ◌++◌, length, refl, sym, ap, subst, ◌∙◌, ⊎_elim, arith, slice_index_or}
use Rattle.std.specs.Prelude.{filter, flat_map, map}
use Rattle.std.specs.List.{range_with_len, AllPairs, Contains}
use Rattle.std.proofs.lemmas.List.Concat.{flat_map-cons}
use Rattle.policy_model.proofs.AllWalks.{IsIn, from_map}
use Rattle.list_laws.proofs.Members.{from_filter, in_either}
use Rattle.list_laws.proofs.Tables.{from_flat_map}
use Rattle.policy_laws.proofs.Placed.{from_numbers}

abbrev pub Rises : {A : Type 0} → (A → A → Type 0) → List A → Type 0
Rises R [] = Unit {0}
Rises {A} R (x ∷ xs) = ((y : A) → IsIn y xs → R x y) × Rises R xs

pub rises_alike : {A : Type 0} (R S : A → A → Type 0) (xs : List A) → ((x y : A) → IsIn x xs → IsIn y xs → R x y → S x y) → Rises R xs → Rises S xs
rises_alike R S [] h r = tt
rises_alike R S (x ∷ xs) h r = (λ y i. h x y (inl refl) (inr i) (r.0 y i), rises_alike R S xs (λ a b i j. h a b (inr i) (inr j)) r.1)

pub rises_append : {A : Type 0} (R : A → A → Type 0) (xs ys : List A) → Rises R xs → Rises R ys → ((x y : A) → IsIn x xs → IsIn y ys → R x y) → Rises R (xs ++ ys)
rises_append R [] ys r s h = s
rises_append R (x ∷ xs) ys r s h = (λ y i. ⊎_elim (λ j. r.0 y j) (λ j. h x y (inl refl) j) (in_either y xs ys i), rises_append R xs ys r.1 s (λ a b i j. h a b (inr i) j))

kept : {A : Type 0} (R : A → A → Type 0) (t : A → Bool) (x : A) (xs : List A) (b : Bool) → ((y : A) → IsIn y xs → R x y) → Rises R (filter t xs) → Rises R (cond b (x ∷ filter t xs) (filter t xs))
kept R t x xs true first r = (λ y i. first y (from_filter t y xs i).0, r)
kept R t x xs false first r = r

pub rises_filter : {A : Type 0} (R : A → A → Type 0) (t : A → Bool) (xs : List A) → Rises R xs → Rises R (filter t xs)
rises_filter R t [] r = tt
rises_filter R t (x ∷ xs) r = kept R t x xs (t x) r.0 (rises_filter R t xs r.1)

pub rises_map : {A B : Type 0} (R : A → A → Type 0) (S : B → B → Type 0) (g : A → B) (xs : List A) → ((x y : A) → IsIn x xs → IsIn y xs → R x y → S (g x) (g y)) → Rises R xs → Rises S (map g xs)
rises_map R S g [] h r = tt
rises_map {A} {B} R S g (x ∷ xs) h r =
    (λ y i. let w = from_map g y xs i in subst (λ (z : B). S (g x) z) (sym w.2) (h x w.0 (inl refl) (inr w.1) (r.0 w.0 w.1)), rises_map R S g xs (λ a b i j. h a b (inr i) (inr j)) r.1)

pub rises_pieces : {A B : Type 0} (Q : A → A → Type 0) (R : B → B → Type 0) (g : A → List B) (js : List A) → Rises Q js → ((j : A) → IsIn j js → Rises R (g j)) →
    ((j k : A) (x y : B) → IsIn j js → IsIn k js → Q j k → IsIn x (g j) → IsIn y (g k) → R x y) → Rises R (flat_map g js)
rises_pieces Q R g [] q each cross = tt
rises_pieces Q R g (j ∷ js) q each cross =
    subst (Rises R) (sym (flat_map-cons g j js))
    (rises_append R (g j) (flat_map g js) (each j (inl refl)) (rises_pieces Q R g js q.1 (λ k i. each k (inr i)) (λ k l x y i m n a b. cross k l x y (inr i) (inr m) n a b))
    (λ x y a b. let w = from_flat_map g y js b in cross j w.0 x y (inl refl) (inr w.1) (q.0 w.0 w.1) a w.2))

abbrev pub Below : ℕ → ℕ → Type 0
Below m n = m < n

pub numbers_rise : (a n : ℕ) → Rises Below (range_with_len a n)
numbers_rise a zero = tt
numbers_rise a (suc n) = (λ y i. let w = from_numbers (a + 1) n y i in let low = w.0 in omega (arith, low), numbers_rise (a + 1) n)

-- two lists that rise and have the same members are one
pub rising_same : {A : Type 0} (R : A → A → Type 0) → ((x y : A) → R x y → R y x → ⊥) → (xs ys : List A) → Rises R xs → Rises R ys → ((z : A) → IsIn z xs → IsIn z ys) → ((z : A) → IsIn z ys → IsIn z xs) → xs ≡ ys
rising_same R apart [] [] r s to from = refl
rising_same R apart [] (y ∷ ys) r s to from = absurd (from y (inl refl))
rising_same R apart (x ∷ xs) [] r s to from = absurd (to x (inl refl))
rising_same {A} R apart (x ∷ xs) (y ∷ ys) r s to from =
    let same = heads (to x (inl refl)) (from y (inl refl)) r.0 s.0 in
    ap (λ (z : A). z ∷ xs) same
    ∙ ap (λ (zs : List A). y ∷ zs)
    (rising_same R apart xs ys r.1 s.1
    (λ z i. ⊎_elim (λ (e : z ≡ y). absurd (let loop = r.0 z i in let back = subst (λ (w : A). R x w) (e ∙ sym same) loop in apart x x back back)) (λ j. j) (to z (inr i)))
    (λ z i. ⊎_elim (λ (e : z ≡ x). absurd (let loop = s.0 z i in let back = subst (λ (w : A). R y w) (e ∙ same) loop in apart y y back back)) (λ j. j) (from z (inr i))))
  where
    heads : (x ≡ y) ⊎ IsIn x ys → (y ≡ x) ⊎ IsIn y xs → ((z : A) → IsIn z xs → R x z) → ((z : A) → IsIn z ys → R y z) → x ≡ y
    heads (inl e) h r s = e
    heads (inr i) (inl e) r s = sym e
    heads (inr i) (inr j) r s = absurd (apart x y (r y j) (s x i))

-- ---- members by their places

pub contains_in : {A : Type 0} (xs : List A) (x : A) → Contains xs x → IsIn x xs
contains_in xs x c = go xs c.0 c.1 c.2
  where
    go : {A : Type 0} (xs : List A) {x : A} (k : ℕ) → k < length xs → slice_index_or xs k x ≡ x → IsIn x xs
    go [] k below e = absurd (let z : ⊥ = omega (arith, below) in z)
    go (y ∷ ys) zero below e = inl (sym e)
    go (y ∷ ys) (suc k) below e = inr (go ys k (omega (arith, below)) e)

pub in_contains : {A : Type 0} (xs : List A) (x : A) → IsIn x xs → Contains xs x
in_contains [] x h = absurd h
in_contains (y ∷ ys) x (inl e) = (0, omega arith, sym e)
in_contains (y ∷ ys) x (inr h) = let w = in_contains ys x h in let b = w.1 in (suc w.0, omega (arith, b), w.2)

-- from places to members
pub rises_by_places : {A : Type 0} (R : A → A → Type 0) (xs : List A) → AllPairs R xs → Rises R xs
rises_by_places R [] h = tt
rises_by_places {A} R (x ∷ xs) h = (
  λ y i. let c = in_contains xs y i in let b = c.1 in subst (λ (w : A). R x w) c.2 (h 0 (suc c.0) y (omega arith) (omega (arith, b))),
  rises_by_places R xs (λ i j d lt below. h (suc i) (suc j) d (omega (arith, lt)) (omega (arith, below))),
)
