-- A binary search among pairs of numbers in order.
use Rattle.std.proofs.Common.{◌≡◌, ℕ, ◌<◌, ◌≤◌, inl, inr, Bool, true, false, cond, eqb, ltb, ◌&&◌, List, [], ◌∷◌, length, map, refl, sym, ap, subst, ◌∙◌, ⊎_elim, arith, nat_cmp, slice_index_or}
use Rattle.std.specs.Cmp.{IsTotalOrder}
use Rattle.std.specs.List.{AllPairs, Contains}
use Rattle.std.specs.List.Sorted.{IsNonDecreasingBy, IsPartitionPoint}
use Rattle.std.specs.Ordering.{ordering_then, ordering_index, is_eq}
use Rattle.std.specs.declared.cmp.Ordering.{Ordering}
use Rattle.std.specs.declared.cmp.Ordering.TheVariants.{Less, Equal, Greater}
use Rattle.std.proofs.lemmas.Bool.{ltb-true, lt-ltb, le-ltb, eqb-true, eq-eqb, and_parts, cases_lt}
use Rattle.std.proofs.lemmas.Cmp.{nat_cmp_total, on_total, then_total, tied_itself}
use Rattle.std.proofs.lemmas.List.{length-map, get_or-map}
use Rattle.closed_pairs.specs.Flags.{IsKeyBefore}

abbrev pub pair_cmp : ℕ × ℕ → ℕ × ℕ → Ordering
pair_cmp x y = ordering_then (nat_cmp x.0 y.0) (nat_cmp x.1 y.1)

pair_total : IsTotalOrder pair_cmp
pair_total = then_total (on_total (λ (p : ℕ × ℕ). p.0) nat_cmp_total) (on_total (λ (p : ℕ × ℕ). p.1) nat_cmp_total)

tie_nat : (a b : ℕ) → eqb a b ≡ is_eq (nat_cmp a b)
tie_nat a b = go (ltb a b) refl (eqb a b) refl
  where
    go : (c : Bool) → ltb a b ≡ c → (d : Bool) → eqb a b ≡ d → d ≡ is_eq (cond c Less (cond d Equal Greater))
    go true t true e = let lt = ltb-true a b t in let same = eqb-true a b e in absurd (let z : ⊥ = omega (arith, lt, same) in z)
    go true t false e = refl
    go false t true e = refl
    go false t false e = refl

tie_then : (o p : Ordering) → is_eq (ordering_then o p) ≡ (is_eq o && is_eq p)
tie_then Less p = refl
tie_then Equal p = refl
tie_then Greater p = refl

pub equal_is : (x y : ℕ × ℕ) → pair_cmp x y ≡ Equal → x ≡ y
equal_is x y h =
    let same : (eqb x.0 y.0 && eqb x.1 y.1) ≡ true = ap (λ b. b && eqb x.1 y.1) (tie_nat x.0 y.0) ∙ (ap (λ b. is_eq (nat_cmp x.0 y.0) && b) (tie_nat x.1 y.1) ∙ (sym (tie_then (nat_cmp x.0 y.0) (nat_cmp x.1 y.1)) ∙ ap is_eq h)) in
    let w = and_parts (eqb x.0 y.0) (eqb x.1 y.1) same in
    ap (λ (n : ℕ). let r : ℕ × ℕ = (n, x.1) in r) (eqb-true x.0 y.0 w.0) ∙ ap (λ (n : ℕ). let r : ℕ × ℕ = (y.0, n) in r) (eqb-true x.1 y.1 w.1)

before_less : (x y : ℕ × ℕ) → IsKeyBefore x y → pair_cmp x y ≡ Less
before_less x y (inl lt) = ap (λ b. ordering_then (cond b Less (cond (eqb x.0 y.0) Equal Greater)) (nat_cmp x.1 y.1)) (lt-ltb x.0 y.0 lt)
before_less x y (inr h) =
    let e = h.0 in
    ap (λ o. ordering_then o (nat_cmp x.1 y.1)) (equal_nat x.0 y.0 e) ∙ ap (λ b. cond b Less (cond (eqb x.1 y.1) Equal Greater)) (lt-ltb x.1 y.1 h.1)
  where
    equal_nat : (a b : ℕ) → a ≡ b → nat_cmp a b ≡ Equal
    equal_nat a b e = ap (λ c. cond c Less (cond (eqb a b) Equal Greater)) (le-ltb a b (omega (arith, e))) ∙ ap (λ c. cond c Equal Greater) (eq-eqb a b e)

rank_rises : (p x y : ℕ × ℕ) → IsKeyBefore x y → ordering_index (pair_cmp x p) ≤ ordering_index (pair_cmp y p)
rank_rises p x y h = go (pair_cmp y p) refl
  where
    top : (o : Ordering) → ordering_index o ≤ 2
    top Less = omega arith
    top Equal = omega arith
    top Greater = omega arith

    go : (o : Ordering) → pair_cmp y p ≡ o → ordering_index (pair_cmp x p) ≤ ordering_index o
    go Less e = let f : ordering_index (pair_cmp x p) ≡ 0 = ap ordering_index (pair_total.trans x y p (before_less x y h) e) in omega (arith, f)
    go Equal e = let f : ordering_index (pair_cmp x p) ≡ 0 = ap ordering_index (subst (λ (z : ℕ × ℕ). pair_cmp x z ≡ Less) (equal_is y p e) (before_less x y h)) in omega (arith, f)
    go Greater e = top (pair_cmp x p)

ranks : (p : ℕ × ℕ) (xs : List (ℕ × ℕ)) → AllPairs IsKeyBefore xs → IsNonDecreasingBy (λ y. ordering_index (pair_cmp y p)) xs
ranks p xs order = λ i j d le below.
    ⊎_elim
    (λ (lt : i < j). rank_rises p (slice_index_or xs i d) (slice_index_or xs j d) (order i j d lt below))
    (λ (ge : j ≤ i). let e : i ≡ j = omega (arith, le, ge) in let f = ap (λ k. ordering_index (pair_cmp (slice_index_or xs k d) p)) e in omega (arith, f))
    (cases_lt i j)

-- one of them is found
pub not_missed : (p : ℕ × ℕ) (xs : List (ℕ × ℕ)) (i : ℕ) → AllPairs IsKeyBefore xs → (IsNonDecreasingBy (λ y. ordering_index (pair_cmp y p)) xs → IsPartitionPoint (λ y. pair_cmp y p ≡ Less) (λ y. pair_cmp y p ≡ Greater) xs i) → Contains xs p → ⊥
not_missed p xs i order says there =
    let point = says (ranks p xs order) in
    let k = there.0 in
    let equal : pair_cmp (slice_index_or xs k p) p ≡ Equal = subst (λ (z : ℕ × ℕ). pair_cmp z p ≡ Equal) (sym there.2) (tied_itself pair_total p) in
    ⊎_elim
    (λ (lt : k < i). differ_less (sym (point.0 k p (omega arith) lt) ∙ equal))
    (λ (ge : i ≤ k). differ_greater (sym (point.1 k p ge there.1) ∙ equal))
    (cases_lt k i)
  where
    differ_less : Less ≡ Equal → ⊥
    differ_less e = cc

    differ_greater : Greater ≡ Equal → ⊥
    differ_greater e = cc

-- ---- the order of what is seen of a list

pub all_pairs_map : {A B : Type 0} (R : B → B → Type 0) (f : A → B) (xs : List A) → AllPairs (λ a b. R (f a) (f b)) xs → AllPairs R (map f xs)
all_pairs_map R f [] h = λ i j d lt below. absurd (let z : ⊥ = omega (arith, below) in z)
all_pairs_map R f (x ∷ xs) h = λ i j d lt below.
    let n = length-map (x ∷ xs) f in
    let there : j < length (x ∷ xs) = omega (arith, below, n) in
    subst (λ b. R b (slice_index_or (map f (x ∷ xs)) j d)) (sym (get_or-map f (x ∷ xs) i x d (omega (arith, lt, there))))
    (subst (R (f (slice_index_or (x ∷ xs) i x))) (sym (get_or-map f (x ∷ xs) j x d there)) (h i j x lt there))
