-- The least pair of neighbours with one prefix is the least pair of items with one prefix.
use Rattle.std.proofs.Common.{◌≡◌, ℕ, zero, suc, ◌-◌, ◌<◌, ◌≤◌, ◌⊎◌, inl, inr, Bool, true, false, cond, ◌&&◌, List, length, refl, sym, ap, subst, ◌∙◌, ⊎_elim, arith}
use Rattle.std.specs.Prelude.{Option, Some, None, ◌==◌, nat_lt}
use Rattle.std.specs.List.{Contains}
use Rattle.std.specs.List.Sorted.{IsPermutation}
use Rattle.std.proofs.lemmas.List.{get_or_default}
use Rattle.std.proofs.lemmas.List.Elements.{Contains-get_or}
use Rattle.std.proofs.lemmas.List.Sorted.{Contains-permutation, IsPermutation-sym}
use Rattle.std.proofs.lemmas.Bool.{and_parts, and_from, or_cases, or_left, or_right, cases_lt, cases_eq, ltb-true, lt-ltb, eqb-true, eq-eqb, both_ways}
use Rattle.spoc_base.specs.Address.{Cidr}
use Rattle.subnet_tree.specs.Entries.{Entry, no_entry, entry_at, HaveDistinctNumbers, HaveDistinctPrefixes, Precedes, AreInOrder, are_equal, is_before, lesser, least_of_neighbours, IsLeastSame}
use Rattle.subnet_tree.proofs.Sorting.{cidr_equal}
use Rattle.subnet_tree.proofs.Longest.{distinct_permuted}

-- ---- pairs of numbers

-- the first pair is the second or stands before it
abbrev NotAfter : ℕ × ℕ → ℕ × ℕ → Type 0
NotAfter p q = (p.0 < q.0) ⊎ ((p.0 ≡ q.0) × (p.1 ≤ q.1))

not_after_itself : (p : ℕ × ℕ) → NotAfter p p
not_after_itself p = inr (refl, omega arith)

not_after_trans : (p q r : ℕ × ℕ) → NotAfter p q → NotAfter q r → NotAfter p r
not_after_trans p q r (inl a) (inl b) = inl (omega (arith, a, b))
not_after_trans p q r (inl a) (inr b) = let e = b.0 in inl (omega (arith, a, e))
not_after_trans p q r (inr a) (inl b) = let e = a.0 in inl (omega (arith, b, e))
not_after_trans p q r (inr a) (inr b) = let e = a.0 in let f = b.0 in let x = a.1 in let y = b.1 in inr (omega (arith, e, f), omega (arith, x, y))

before_not_after : (p q : ℕ × ℕ) → is_before p q ≡ true → NotAfter p q
before_not_after p q h =
    ⊎_elim (λ t. inl (ltb-true p.0 q.0 t))
    (λ t. let w = and_parts (p.0 == q.0) (nat_lt p.1 q.1) t in let l = ltb-true p.1 q.1 w.1 in inr (eqb-true p.0 q.0 w.0, omega (arith, l)))
    (or_cases (nat_lt p.0 q.0) ((p.0 == q.0) && nat_lt p.1 q.1) h)

not_before : (p q : ℕ × ℕ) → is_before p q ≡ false → NotAfter q p
not_before p q h =
    ⊎_elim (λ (lt : q.0 < p.0). inl lt)
    (λ (le : p.0 ≤ q.0).
    ⊎_elim (λ (lt : p.0 < q.0). absurd (both_ways (is_before p q) h (or_left (nat_lt p.0 q.0) ((p.0 == q.0) && nat_lt p.1 q.1) (lt-ltb p.0 q.0 lt))))
    (λ (ge : q.0 ≤ p.0).
    let e : p.0 ≡ q.0 = omega (arith, le, ge) in
    ⊎_elim (λ (lt : p.1 < q.1). absurd (both_ways (is_before p q) h (or_right (nat_lt p.0 q.0) ((p.0 == q.0) && nat_lt p.1 q.1) (and_from (p.0 == q.0) (nat_lt p.1 q.1) (eq-eqb p.0 q.0 e) (lt-ltb p.1 q.1 lt)))))
    (λ (less : q.1 ≤ p.1). inr (sym e, less))
    (cases_lt p.1 q.1))
    (cases_lt p.0 q.0))
    (cases_lt q.0 p.0)

-- ---- neighbours

abbrev equal_at : List Entry → ℕ → Bool
equal_at es k = are_equal (entry_at es k).prefix (entry_at es (suc k)).prefix

abbrev pair_at : List Entry → ℕ → ℕ × ℕ
pair_at es k = ((entry_at es k).net, (entry_at es (suc k)).net)

record IsBest (es : List Entry) (n : ℕ) (q : ℕ × ℕ) : Type 0 where
  k : ℕ
  below : k < n
  equal : equal_at es k ≡ true
  pair : q ≡ pair_at es k
  least : (j : ℕ) → j < n → equal_at es j ≡ true → NotAfter q (pair_at es j)

abbrev BestSoFar : List Entry → ℕ → Option (ℕ × ℕ) → Type 0
BestSoFar es n None = (j : ℕ) → j < n → equal_at es j ≡ false
BestSoFar es n (Some q) = IsBest es n q

one_further : (n : ℕ) (P : ℕ → Type 0) → ((j : ℕ) → j < n → P j) → P n → (j : ℕ) → j < suc n → P j
one_further n P earlier last j below = ⊎_elim (λ (lt : j < n). earlier j lt) (λ (ge : n ≤ j). let e : n ≡ j = omega (arith, ge, below) in subst P e last) (cases_lt j n)

replaced : (es : List Entry) (n : ℕ) (q : ℕ × ℕ) → IsBest es n q → equal_at es n ≡ true → (c : Bool) → is_before (pair_at es n) q ≡ c → IsBest es (suc n) (cond c (pair_at es n) q)
replaced es n q best e true b = record {
  k = n;
  below = omega arith;
  equal = e;
  pair = refl;
  least = one_further n (λ j. equal_at es j ≡ true → NotAfter (pair_at es n) (pair_at es j))
      (λ j lt t. not_after_trans (pair_at es n) q (pair_at es j) (before_not_after (pair_at es n) q b) (best.least j lt t)) (λ t. not_after_itself (pair_at es n));
}
replaced es n q best e false b = record {
  k = best.k;
  below = let l = best.below in omega (arith, l);
  equal = best.equal;
  pair = best.pair;
  least = one_further n (λ j. equal_at es j ≡ true → NotAfter q (pair_at es j)) best.least (λ t. not_before (pair_at es n) q b);
}

best_step : (es : List Entry) (n : ℕ) (o : Option (ℕ × ℕ)) → BestSoFar es n o → (c : Bool) → equal_at es n ≡ c → BestSoFar es (suc n) (cond c (Some (lesser o (pair_at es n))) o)
best_step es n None best true e = record {
  k = n;
  below = omega arith;
  equal = e;
  pair = refl;
  least = one_further n (λ j. equal_at es j ≡ true → NotAfter (pair_at es n) (pair_at es j)) (λ j lt t. absurd (both_ways (equal_at es j) (best j lt) t)) (λ t. not_after_itself (pair_at es n));
}
best_step es n None best false e = one_further n (λ j. equal_at es j ≡ false) best e
best_step es n (Some q) best true e = replaced es n q best e (is_before (pair_at es n) q) refl
best_step es n (Some q) best false e = record {
  k = best.k;
  below = let l = best.below in omega (arith, l);
  equal = best.equal;
  pair = best.pair;
  least = one_further n (λ j. equal_at es j ≡ true → NotAfter q (pair_at es j)) best.least (λ t. absurd (both_ways (equal_at es n) e t));
}

best_of_neighbours : (es : List Entry) (n : ℕ) → BestSoFar es n (least_of_neighbours es n)
best_of_neighbours es zero = λ j below. absurd (let z : ⊥ = omega (arith, below) in z)
best_of_neighbours es (suc n) = best_step es n (least_of_neighbours es n) (best_of_neighbours es n) (equal_at es n) refl

-- ---- items

equal_prefixes : (p q : Cidr) → are_equal p q ≡ true → p ≡ q
equal_prefixes p q h = let w = and_parts (p.net == q.net) (p.len == q.len) h in cidr_equal p q (eqb-true p.net q.net w.0) (eqb-true p.len q.len w.1)

prefixes_equal : (p q : Cidr) → p.net ≡ q.net → p.len ≡ q.len → are_equal p q ≡ true
prefixes_equal p q e f = and_from (p.net == q.net) (p.len == q.len) (eq-eqb p.net q.net e) (eq-eqb p.len q.len f)

module _ (items es : List Entry) (perm : IsPermutation items es) (order : AreInOrder es) (numbers : HaveDistinctNumbers items) where
  record Place (e : Entry) : Type 0 where
    k : ℕ
    below : k < length es
    is : entry_at es k ≡ e

  find_place : (e : Entry) → Contains items e → Place e
  find_place e h =
      let c = Contains-permutation items es e perm h in
      record { k = c.0; below = c.1; is = get_or_default es c.0 no_entry e c.1 ∙ c.2 }

  there : (k : ℕ) → k < length es → Contains items (entry_at es k)
  there k below = Contains-permutation es items (entry_at es k) (IsPermutation-sym items es perm) (Contains-get_or es k no_entry below)

  precedes : (i j : ℕ) → i < j → j < length es → Precedes (entry_at es i) (entry_at es j)
  precedes i j lt below = order i j no_entry lt below

  ascending : (i j : ℕ) → i < j → j < length es → (entry_at es i).prefix ≡ (entry_at es j).prefix → (entry_at es i).net < (entry_at es j).net
  ascending i j lt below e =
      let le = (precedes i j lt below).numbers e in
      let ne = distinct_permuted items es perm numbers i j no_entry lt below in
      ⊎_elim (λ (same : (entry_at es i).net ≡ (entry_at es j).net). absurd (ne same)) (λ other. omega (arith, le, other)) (cases_eq (entry_at es i).net (entry_at es j).net)

  -- all between two with one prefix have it
  record Between (i j : ℕ) : Type 0 where
    equal : equal_at es i ≡ true
    second : (entry_at es (suc i)).net ≤ (entry_at es j).net

  between : (i j : ℕ) → i < j → j < length es → (entry_at es i).prefix ≡ (entry_at es j).prefix → Between i j
  between i j lt below e =
      let net = ap (λ p. p.net) e in
      let len = ap (λ p. p.len) e in
      ⊎_elim
      (λ (more : suc i < j).
      let a = precedes i (suc i) (omega arith) (omega (arith, more, below)) in
      let b = precedes (suc i) j more below in
      let an = a.nets in
      let bn = b.nets in
      let en : (entry_at es i).prefix.net ≡ (entry_at es (suc i)).prefix.net = omega (arith, an, bn, net) in
      let fn : (entry_at es (suc i)).prefix.net ≡ (entry_at es j).prefix.net = omega (arith, an, bn, net) in
      let al = a.lengths en in
      let bl = b.lengths fn in
      let el : (entry_at es i).prefix.len ≡ (entry_at es (suc i)).prefix.len = omega (arith, al, bl, len) in
      let fl : (entry_at es (suc i)).prefix.len ≡ (entry_at es j).prefix.len = omega (arith, al, bl, len) in
      record {
        equal = prefixes_equal (entry_at es i).prefix (entry_at es (suc i)).prefix en el;
        second = b.numbers (cidr_equal (entry_at es (suc i)).prefix (entry_at es j).prefix fn fl);
      })
      (λ (last : j ≤ suc i).
      let s : suc i ≡ j = omega (arith, last, lt) in
      subst (Between i) s (record { equal = prefixes_equal (entry_at es i).prefix (entry_at es (suc i)).prefix (net ∙ ap (λ k. (entry_at es k).prefix.net) (sym s)) (len ∙ ap (λ k. (entry_at es k).prefix.len) (sym s)); second = omega arith }))
      (cases_lt (suc i) j)

  pub no_same : least_of_neighbours es (length es - 1) ≡ None → HaveDistinctPrefixes items
  no_same none e f ce cf same =
      let best : BestSoFar es (length es - 1) None = subst (BestSoFar es (length es - 1)) none (best_of_neighbours es (length es - 1)) in
      let v = find_place e ce in
      let w = find_place f cf in
      let both : (entry_at es v.k).prefix ≡ (entry_at es w.k).prefix = ap (λ x. x.prefix) v.is ∙ (same ∙ sym (ap (λ x. x.prefix) w.is)) in
      ⊎_elim
      (λ (lt : v.k < w.k). let b = w.below in absurd (both_ways (equal_at es v.k) (best v.k (omega (arith, lt, b))) (between v.k w.k lt w.below both).equal))
      (λ (ge : w.k ≤ v.k). ⊎_elim
      (λ (gt : w.k < v.k). let b = v.below in absurd (both_ways (equal_at es w.k) (best w.k (omega (arith, gt, b))) (between w.k v.k gt v.below (sym both)).equal))
      (λ (le : v.k ≤ w.k). let s : v.k ≡ w.k = omega (arith, le, ge) in ap (λ x. x.net) (sym v.is) ∙ (ap (λ k. (entry_at es k).net) s ∙ ap (λ x. x.net) w.is))
      (cases_lt w.k v.k))
      (cases_lt v.k w.k)

  pub least_same_is : (q : ℕ × ℕ) → least_of_neighbours es (length es - 1) ≡ Some q → IsLeastSame items q.0 q.1
  least_same_is q some =
      let best : IsBest es (length es - 1) q = subst (BestSoFar es (length es - 1)) some (best_of_neighbours es (length es - 1)) in
      let k = best.k in
      let l = best.below in
      let below : suc k < length es = omega (arith, l) in
      let same = equal_prefixes (entry_at es k).prefix (entry_at es (suc k)).prefix best.equal in
      let n = ap (λ p. p.0) best.pair in
      let m = ap (λ p. p.1) best.pair in
      let up = ascending k (suc k) (omega arith) below same in
      record {
        first = entry_at es k;
        second = entry_at es (suc k);
        first_there = there k (omega (arith, below));
        second_there = there (suc k) below;
        first_number = sym n;
        second_number = sym m;
        ascending = omega (arith, n, m, up);
        same = same;
        least = λ e f ce cf lt both.
            let v = find_place e ce in
            let w = find_place f cf in
            let prefixes : (entry_at es v.k).prefix ≡ (entry_at es w.k).prefix = ap (λ x. x.prefix) v.is ∙ (both ∙ sym (ap (λ x. x.prefix) w.is)) in
            let vn = ap (λ x. x.net) v.is in
            let wn = ap (λ x. x.net) w.is in
            ⊎_elim
            (λ (before : v.k < w.k).
            let b = between v.k w.k before w.below prefixes in
            let s = b.second in
            let u = w.below in
            ⊎_elim (λ less. inl (omega (arith, less, vn))) (λ c. let c0 = c.0 in let c1 = c.1 in inr (omega (arith, c0, vn), omega (arith, c1, s, wn))) (best.least v.k (omega (arith, before, u)) b.equal))
            (λ (ge : w.k ≤ v.k). absurd (⊎_elim
            (λ (after : w.k < v.k). let r = ascending w.k v.k after v.below (sym prefixes) in let z : ⊥ = omega (arith, r, vn, wn, lt) in z)
            (λ (le : v.k ≤ w.k). let s : v.k ≡ w.k = omega (arith, le, ge) in let t = ap (λ j. (entry_at es j).net) s in let z : ⊥ = omega (arith, t, vn, wn, lt) in z)
            (cases_lt w.k v.k)))
            (cases_lt v.k w.k);
      }
