-- Lists whose items stand in an order, and the first item of such a list that passes a test.
use Rattle.std.proofs.Common.{◌≡◌, ℕ, zero, suc, ◌+◌, ◌<◌, ◌≤◌, ◌⊎◌, inl, inr, Bool, true, false, cond, List, [], ◌∷◌, ◌++◌, map, Option, Some, None, refl, sym, ap, subst, ◌∙◌, ⊎_elim, arith}
use Rattle.std.specs.Prelude.{find}
use Rattle.std.specs.List.{range_with_len}
use Rattle.std.proofs.lemmas.Bool.{false≢true}
use Rattle.policy_model.specs.Lists.{pairs_of, numbers_below}
use Rattle.policy_model.proofs.AllWalks.{IsIn, from_map}
use Rattle.list_laws.proofs.Members.{in_either}
use Rattle.list_laws.proofs.Tables.{from_flat_map}

-- Each item stands before all that follow it.
abbrev pub InOrder : {A : Type 0} → (A → A → Type 0) → List A → Type 0
InOrder Before [] = Unit {0}
InOrder {A} Before (x ∷ xs) = ((y : A) → IsIn y xs → Before x y) × InOrder Before xs

-- ---- what is in order

from_range : (a n k : ℕ) → IsIn k (range_with_len a n) → (a ≤ k) × (k < a + n)
from_range a zero k h = absurd h
from_range a (suc n) k (inl e) = (omega (arith, e), omega (arith, e))
from_range a (suc n) k (inr h) = let w = from_range (a + 1) n k h in (omega (arith, w.0), omega (arith, w.1))

pub from_numbers : (n k : ℕ) → IsIn k (numbers_below n) → k < n
from_numbers n k h = let w = from_range 0 n k h in omega (arith, w.1)

order_range : (a n : ℕ) → InOrder (λ (x y : ℕ). x < y) (range_with_len a n)
order_range a zero = tt
order_range a (suc n) = (λ y h. let w = from_range (a + 1) n y h in omega (arith, w.0), order_range (a + 1) n)

pub order_numbers : (n : ℕ) → InOrder (λ (x y : ℕ). x < y) (numbers_below n)
order_numbers n = order_range 0 n

pub order_append : {A : Type 0} (Before : A → A → Type 0) (xs ys : List A) → InOrder Before xs → InOrder Before ys →
    ((x y : A) → IsIn x xs → IsIn y ys → Before x y) → InOrder Before (xs ++ ys)
order_append Before [] ys h g across = g
order_append {A} Before (x ∷ xs) ys h g across = (
  λ y i. ⊎_elim (λ here. h.0 y here) (λ there. across x y (inl refl) there) (in_either y xs ys i),
  order_append Before xs ys h.1 g (λ a b i j. across a b (inr i) j),
)

pub order_map : {A B : Type 0} (Before : A → A → Type 0) (After : B → B → Type 0) (f : A → B) → ((x y : A) → Before x y → After (f x) (f y)) →
    (xs : List A) → InOrder Before xs → InOrder After (map f xs)
order_map Before After f keeps [] h = tt
order_map {A} {B} Before After f keeps (x ∷ xs) h = (
  λ z i. let w = from_map f z xs i in subst (λ (b : B). After (f x) b) (sym w.2) (keeps x w.0 (h.0 w.0 w.1)),
  order_map Before After f keeps xs h.1,
)

-- by the first, and then by the second
abbrev pub PairBefore : {A B : Type 0} → (A → A → Type 0) → (B → B → Type 0) → A × B → A × B → Type 0
PairBefore First Second x y = First x.0 y.0 ⊎ ((x.0 ≡ y.0) × Second x.1 y.1)

pub from_pairs : {A B : Type 0} (xs : List A) (ys : List B) (e : A × B) → IsIn e (pairs_of xs ys) → IsIn e.0 xs × IsIn e.1 ys
from_pairs {A} {B} xs ys e h =
    let w = from_flat_map (λ x. map (λ y. (x, y)) ys) e xs h in
    let v = from_map (λ (y : B). (w.0, y)) e ys w.2 in
    (subst (λ (a : A). IsIn a xs) (sym (ap (λ (z : A × B). z.0) v.2)) w.1, subst (λ (b : B). IsIn b ys) (sym (ap (λ (z : A × B). z.1) v.2)) v.1)

pub order_pairs : {A B : Type 0} (First : A → A → Type 0) (Second : B → B → Type 0) (xs : List A) (ys : List B) → InOrder First xs → InOrder Second ys →
    InOrder (PairBefore First Second) (pairs_of xs ys)
order_pairs First Second [] ys h g = tt
order_pairs {A} {B} First Second (x ∷ xs) ys h g =
    order_append (PairBefore First Second) (map (λ y. (x, y)) ys) (pairs_of xs ys)
    (order_map Second (PairBefore First Second) (λ (y : B). (x, y)) (λ a b s. inr (refl, s)) ys g)
    (order_pairs First Second xs ys h.1 g)
    (λ p q i j. let w = from_map (λ (y : B). (x, y)) p ys i in let v = from_pairs xs ys q j in
    inl (subst (λ (a : A). First a q.0) (sym (ap (λ (z : A × B). z.0) w.2)) (h.0 q.0 v.0)))

-- ---- the first that passes

-- It is in the list and passes, and all others that do follow it.
pub record IsFound {A : Type 0} (Before : A → A → Type 0) (test : A → Bool) (xs : List A) (x : A) : Type 0 where
  pub listed : IsIn x xs
  pub passes : test x ≡ true
  pub first : (y : A) → IsIn y xs → test y ≡ true → (y ≡ x) ⊎ Before x y

abbrev is_there : {A : Type 0} → Option A → Bool
is_there None = false
is_there (Some z) = true

same_item : {A : Type 0} (x y : A) → Some x ≡ Some y → x ≡ y
same_item {A} x y e = ap (go x) e
  where
    go : A → Option A → A
    go d None = d
    go d (Some z) = z

step_found : {A : Type 0} (Before : A → A → Type 0) (test : A → Bool) (y : A) (ys : List A) → InOrder Before (y ∷ ys) → (x : A) → (b : Bool) → test y ≡ b →
    (find test ys ≡ Some x → IsFound Before test ys x) → cond b (Some y) (find test ys) ≡ Some x → IsFound Before test (y ∷ ys) x
step_found {A} Before test y ys order x true t later e = subst (λ (z : A). IsFound Before test (y ∷ ys) z) (same_item y x e)
    (record { listed = inl refl; passes = t; first = λ z i u. ⊎_elim (λ same. inl same) (λ g. inr (order.0 z g)) i })
step_found {A} Before test y ys order x false t later e =
    let w = later e in
    record {
      listed = inr w.listed;
      passes = w.passes;
      first = λ z i u. ⊎_elim (λ same. absurd (false≢true (sym t ∙ (ap test (sym same) ∙ u)))) (λ g. w.first z g u) i;
    }

pub found_first : {A : Type 0} (Before : A → A → Type 0) (test : A → Bool) (xs : List A) → InOrder Before xs → (x : A) → find test xs ≡ Some x → IsFound Before test xs x
found_first Before test [] order x e = absurd (false≢true (ap is_there e))
found_first Before test (y ∷ ys) order x e = step_found Before test y ys order x (test y) refl (found_first Before test ys order.1 x) e

step_none : {A : Type 0} (test : A → Bool) (x : A) (xs : List A) (y : A) → test y ≡ true → (find test xs ≡ None → IsIn y xs → ⊥) → (b : Bool) → test x ≡ b →
    cond b (Some x) (find test xs) ≡ None → (y ≡ x) ⊎ IsIn y xs → ⊥
step_none test x xs y t later true u e h = false≢true (sym (ap is_there e))
step_none test x xs y t later false u e (inl same) = false≢true (sym u ∙ (ap test (sym same) ∙ t))
step_none test x xs y t later false u e (inr g) = later e g

pub found_none : {A : Type 0} (test : A → Bool) (xs : List A) → find test xs ≡ None → (y : A) → IsIn y xs → test y ≡ true → ⊥
found_none test [] e y h t = h
found_none test (x ∷ xs) e y h t = step_none test x xs y t (λ g i. found_none test xs g y i t) (test x) refl e h
