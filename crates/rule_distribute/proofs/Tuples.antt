-- All pairs of numbers, and some of them, in order.
use Rattle.std.proofs.Common.{◌≡◌, ℕ, ◌<◌, ◌≤◌, inl, inr, Bool, true, false, cond, eqb, ltb, ◌&&◌, List, map, refl, sym, ap, subst, ◌∙◌, ⊎_elim, arith, nat_cmp, slice_index_or}
use Rattle.std.specs.Prelude.{filter}
use Rattle.std.specs.Cmp.{IsTotalOrder, IsEquivalence}
use Rattle.std.specs.List.{AllPairs, Contains, dedup}
use Rattle.std.specs.List.Sorted.{IsPermutation, IsSorted, IsNonDecreasingBy, IsPartitionPoint}
use Rattle.std.specs.Ordering.{ordering_then, ordering_index, is_eq}
use Rattle.std.specs.declared.cmp.Ordering.{Ordering}
use Rattle.std.specs.declared.cmp.Ordering.TheVariants.{Less, Equal, Greater}
use Rattle.std.proofs.lemmas.Bool.{ltb-true, lt-ltb, le-ltb, eqb-true, eq-eqb, and_parts, cases_lt}
use Rattle.std.proofs.lemmas.Cmp.{nat_cmp_total, on_total, then_total, nat_eq_equiv, on_equiv, and_equiv, tied_itself}
use Rattle.std.proofs.lemmas.List.Kept.{IsStrictlySortedBy-dedup, Contains-dedup, Contains-from_dedup}
use Rattle.std.proofs.lemmas.List.Sorted.{Contains-permutation, IsPermutation-sym}
use Rattle.std.proofs.lemmas.Map.Keys.{Less-from_sorted}
use Rattle.policy_model.specs.Lists.{numbers_below, pairs_of}
use Rattle.policy_model.proofs.AllWalks.{from_map}
use Rattle.rule_distribute.specs.Pairs.{IsBefore, AreOnce}
use Rattle.rule_distribute.proofs.Rising.{Rises, Below, rises_map, rises_pieces, rises_filter, numbers_rise}

pub before_apart : (x y : ℕ × ℕ) → IsBefore x y → IsBefore y x → ⊥
before_apart x y (inl a) (inl b) = omega (arith, a, b)
before_apart x y (inl a) (inr b) = let e = b.0 in omega (arith, a, e)
before_apart x y (inr a) (inl b) = let e = a.0 in omega (arith, b, e)
before_apart x y (inr a) (inr b) = let u = a.1 in let w = b.1 in omega (arith, u, w)

pub pairs_rise : (n m : ℕ) → Rises IsBefore (pairs_of (numbers_below n) (numbers_below m))
pairs_rise n m =
    let xs = numbers_below n in
    let ys = numbers_below m in
    rises_pieces Below IsBefore (λ (x : ℕ). map (λ (y : ℕ). pair x y) ys) xs (numbers_rise 0 n)
    (λ x i. rises_map Below IsBefore (λ (y : ℕ). pair x y) ys (λ y z a b h. inr (refl_of x, h)) (numbers_rise 0 m))
    (λ j k x y a b h c d.
    let v = from_map (λ (z : ℕ). pair j z) x ys c in let w = from_map (λ (z : ℕ). pair k z) y ys d in
    let p : x.0 ≡ j = ap (λ (z : ℕ × ℕ). z.0) v.2 in let q : y.0 ≡ k = ap (λ (z : ℕ × ℕ). z.0) w.2 in inl (omega (arith, p, q, h)))
  where
    pair : ℕ → ℕ → ℕ × ℕ
    pair x y = (x, y)

    refl_of : (x : ℕ) → x ≡ x
    refl_of x = omega arith

pub some_rise : (test : ℕ × ℕ → Bool) (n m : ℕ) → Rises IsBefore (filter test (pairs_of (numbers_below n) (numbers_below m)))
some_rise test n m = rises_filter IsBefore test (pairs_of (numbers_below n) (numbers_below m)) (pairs_rise n m)

-- ---- after a sort, without repeats

abbrev pub pair_cmp : ℕ × ℕ → ℕ × ℕ → Ordering
pair_cmp x y = ordering_then (nat_cmp x.0 y.0) (nat_cmp x.1 y.1)

abbrev pub pair_eq : ℕ × ℕ → ℕ × ℕ → Bool
pair_eq x y = eqb x.0 y.0 && eqb x.1 y.1

pair_total : IsTotalOrder pair_cmp
pair_total = then_total (on_total (λ (p : ℕ × ℕ). p.0) nat_cmp_total) (on_total (λ (p : ℕ × ℕ). p.1) nat_cmp_total)

pair_equiv : IsEquivalence pair_eq
pair_equiv = and_equiv (on_equiv (λ (p : ℕ × ℕ). p.0) nat_eq_equiv) (on_equiv (λ (p : ℕ × ℕ). p.1) nat_eq_equiv)

tie_nat : (a b : ℕ) → eqb a b ≡ is_eq (nat_cmp a b)
tie_nat a b = go (ltb a b) refl (eqb a b) refl
  where
    go : (c : Bool) → ltb a b ≡ c → (d : Bool) → eqb a b ≡ d → d ≡ is_eq (cond c Less (cond d Equal Greater))
    go true t true e = let lt = ltb-true a b t in let same = eqb-true a b e in absurd (let z : ⊥ = omega (arith, lt, same) in z)
    go true t false e = refl
    go false t true e = refl
    go false t false e = refl

tie_then : (o p : Ordering) → is_eq (ordering_then o p) ≡ (is_eq o && is_eq p)
tie_then Less p = refl
tie_then Equal p = refl
tie_then Greater p = refl

pub ties : (x y : ℕ × ℕ) → pair_eq x y ≡ is_eq (pair_cmp x y)
ties x y = ap (λ b. b && eqb x.1 y.1) (tie_nat x.0 y.0) ∙ (ap (λ b. is_eq (nat_cmp x.0 y.0) && b) (tie_nat x.1 y.1) ∙ sym (tie_then (nat_cmp x.0 y.0) (nat_cmp x.1 y.1)))

pub pair_is : (x y : ℕ × ℕ) → pair_eq x y ≡ true → x ≡ y
pair_is x y h =
    let w = and_parts (eqb x.0 y.0) (eqb x.1 y.1) h in
    ap (λ (n : ℕ). let r : ℕ × ℕ = (n, x.1) in r) (eqb-true x.0 y.0 w.0) ∙ ap (λ (n : ℕ). let r : ℕ × ℕ = (y.0, n) in r) (eqb-true x.1 y.1 w.1)

less_nat : (a b : ℕ) → nat_cmp a b ≡ Less → a < b
less_nat a b h = go (ltb a b) refl (eqb a b) h
  where
    go : (c : Bool) → ltb a b ≡ c → (d : Bool) → cond c Less (cond d Equal Greater) ≡ Less → a < b
    go true t d h = ltb-true a b t
    go false t true h = absurd (let z : ⊥ = cc in z)
    go false t false h = absurd (let z : ⊥ = cc in z)

same_nat : (a b : ℕ) → nat_cmp a b ≡ Equal → a ≡ b
same_nat a b h = eqb-true a b (tie_nat a b ∙ ap is_eq h)

less_before : (x y : ℕ × ℕ) → pair_cmp x y ≡ Less → IsBefore x y
less_before x y h = go (nat_cmp x.0 y.0) refl h
  where
    go : (o : Ordering) → nat_cmp x.0 y.0 ≡ o → ordering_then o (nat_cmp x.1 y.1) ≡ Less → IsBefore x y
    go Less e h = inl (less_nat x.0 y.0 e)
    go Equal e h = inr (same_nat x.0 y.0 e, less_nat x.1 y.1 h)
    go Greater e h = absurd (let z : ⊥ = cc in z)

pub once_from : (xs ys zs : List (ℕ × ℕ)) → IsPermutation xs ys → IsSorted pair_cmp ys → zs ≡ dedup pair_eq ys → AreOnce xs zs
once_from xs ys zs moved sorted is =
    let strict = IsStrictlySortedBy-dedup pair_total ties ys sorted in
    record {
      order = subst (AllPairs IsBefore) (sym is) (λ i j d lt below. less_before _ _ (Less-from_sorted pair_cmp (dedup pair_eq ys) i j d strict lt below));
      kept = λ e h. subst (λ vs. Contains vs e) (sym is) (Contains-dedup pair_equiv pair_is ys e (Contains-permutation xs ys e moved h));
      added = λ e h. Contains-permutation ys xs e (IsPermutation-sym xs ys moved) (Contains-from_dedup pair_eq ys e (subst (λ vs. Contains vs e) is h));
    }

-- ---- a binary search among pairs in order

pub before_less : (x y : ℕ × ℕ) → IsBefore x y → pair_cmp x y ≡ Less
before_less x y (inl lt) = ap (λ b. ordering_then (cond b Less (cond (eqb x.0 y.0) Equal Greater)) (nat_cmp x.1 y.1)) (lt-ltb x.0 y.0 lt)
before_less x y (inr h) =
    let e = h.0 in
    ap (λ o. ordering_then o (nat_cmp x.1 y.1)) (equal_nat x.0 y.0 e) ∙ ap (λ b. cond b Less (cond (eqb x.1 y.1) Equal Greater)) (lt-ltb x.1 y.1 h.1)
  where
    equal_nat : (a b : ℕ) → a ≡ b → nat_cmp a b ≡ Equal
    equal_nat a b e = ap (λ c. cond c Less (cond (eqb a b) Equal Greater)) (le-ltb a b (omega (arith, e))) ∙ ap (λ c. cond c Equal Greater) (eq-eqb a b e)

pub equal_is : (x y : ℕ × ℕ) → pair_cmp x y ≡ Equal → x ≡ y
equal_is x y h = pair_is x y (ties x y ∙ ap is_eq h)

rank_rises : (p x y : ℕ × ℕ) → IsBefore x y → ordering_index (pair_cmp x p) ≤ ordering_index (pair_cmp y p)
rank_rises p x y h = go (pair_cmp y p) refl
  where
    top : (o : Ordering) → ordering_index o ≤ 2
    top Less = omega arith
    top Equal = omega arith
    top Greater = omega arith

    go : (o : Ordering) → pair_cmp y p ≡ o → ordering_index (pair_cmp x p) ≤ ordering_index o
    go Less e = let f : ordering_index (pair_cmp x p) ≡ 0 = ap ordering_index (pair_total.trans x y p (before_less x y h) e) in omega (arith, f)
    go Equal e = let f : ordering_index (pair_cmp x p) ≡ 0 = ap ordering_index (subst (λ (z : ℕ × ℕ). pair_cmp x z ≡ Less) (equal_is y p e) (before_less x y h)) in omega (arith, f)
    go Greater e = top (pair_cmp x p)

pub ranks : (p : ℕ × ℕ) (xs : List (ℕ × ℕ)) → AllPairs IsBefore xs → IsNonDecreasingBy (λ y. ordering_index (pair_cmp y p)) xs
ranks p xs order = λ i j d le below.
    ⊎_elim
    (λ (lt : i < j). rank_rises p (slice_index_or xs i d) (slice_index_or xs j d) (order i j d lt below))
    (λ (ge : j ≤ i). let e : i ≡ j = omega (arith, le, ge) in let f = ap (λ k. ordering_index (pair_cmp (slice_index_or xs k d) p)) e in omega (arith, f))
    (cases_lt i j)

-- one of them is found
pub not_missed : (p : ℕ × ℕ) (xs : List (ℕ × ℕ)) (i : ℕ) → Contains xs p → AllPairs IsBefore xs → (IsNonDecreasingBy (λ y. ordering_index (pair_cmp y p)) xs → IsPartitionPoint (λ y. pair_cmp y p ≡ Less) (λ y. pair_cmp y p ≡ Greater) xs i) → ⊥
not_missed p xs i there order says =
    let point = says (ranks p xs order) in
    let k = there.0 in
    let equal : pair_cmp (slice_index_or xs k p) p ≡ Equal = subst (λ (z : ℕ × ℕ). pair_cmp z p ≡ Equal) (sym there.2) (tied_itself pair_total p) in
    ⊎_elim
    (λ (lt : k < i). differ_less (sym (point.0 k p (omega arith) lt) ∙ equal))
    (λ (ge : i ≤ k). differ_greater (sym (point.1 k p ge there.1) ∙ equal))
    (cases_lt k i)
  where
    differ_less : Less ≡ Equal → ⊥
    differ_less e = cc

    differ_greater : Greater ≡ Equal → ⊥
    differ_greater e = cc
