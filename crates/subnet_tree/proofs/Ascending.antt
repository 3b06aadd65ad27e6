-- A list in ascending order is determined by how often each number stands there.
use Rattle.std.proofs.Common.{◌≡◌, ℕ, suc, ◌+◌, ◌<◌, ◌≤◌, ◌⊎◌, inl, inr, Bool, true, false, cond, List, [], ◌∷◌, length, map, refl, sym, ap, ◌∙◌, ⊎_elim, arith}
use Rattle.std.specs.Prelude.{◌==◌, nat_lt, filter, slice_index_or}
use Rattle.std.specs.List.{sum_by}
use Rattle.std.specs.List.Sorted.{IsPermutation, IsNonDecreasingBy}
use Rattle.std.proofs.lemmas.List.{get_or-map, length-map}
use Rattle.std.proofs.lemmas.List.Sorted.{sum_by-IsPermutation, IsPermutation-map}
use Rattle.std.proofs.lemmas.List.Sums.{sum_by-cons}
use Rattle.std.proofs.lemmas.Bool.{cases_lt, ltb-true, lt-ltb, eqb-true, eq-eqb, both_ways}
use Rattle.spoc_base.specs.Address.{Cidr, is_inside}
use Rattle.spoc_base.specs.declared.ids.NetId.{NetId}
use Rattle.policy_model.specs.Lists.{with_inserted, sorted_by}
use Rattle.policy_model.proofs.AllWalks.{IsIn}
use Rattle.subnet_tree.specs.Entries.{Entry, nets_inside}
use Rattle.subnet_tree.specs.Knots.{Knot, entry_of_knot, picked}
use Rattle.subnet_tree.specs.Shown.{net_of, knot_of}
use Rattle.subnet_tree.specs.declared.nodes.Node.{Node}
use Rattle.subnet_tree.proofs.Longest.{in_contains}
use Rattle.subnet_tree.proofs.Building.{picked_all}

abbrev is_it : ℕ → ℕ → ℕ
is_it n x = cond (x == n) 1 0

-- how often the number stands in the list
abbrev pub count : ℕ → List ℕ → ℕ
count n xs = sum_by (is_it n) xs

abbrev pub Ascends : List ℕ → Type 0
Ascends [] = Unit {0}
Ascends (x ∷ xs) = ((y : ℕ) → IsIn y xs → x ≤ y) × Ascends xs

it_is : (n x : ℕ) → x ≡ n → is_it n x ≡ 1
it_is n x e = ap (λ b. cond b 1 0) (eq-eqb x n e)

in_step : (n x : ℕ) (xs : List ℕ) (b : Bool) → (x == n) ≡ b → count n (x ∷ xs) ≡ cond b 1 0 + count n xs → 1 ≤ count n (x ∷ xs) → (1 ≤ count n xs → IsIn n xs) → (n ≡ x) ⊎ IsIn n xs
in_step n x xs true e c h later = inl (sym (eqb-true x n e))
in_step n x xs false e c h later = inr (later (omega (arith, c, h)))

in_of_count : (n : ℕ) (xs : List ℕ) → 1 ≤ count n xs → IsIn n xs
in_of_count n [] h = let z : ⊥ = omega (arith, h) in z
in_of_count n (x ∷ xs) h = in_step n x xs (x == n) refl (sum_by-cons (is_it n) x xs) h (in_of_count n xs)

pub one_ascending : (xs ys : List ℕ) → Ascends xs → Ascends ys → ((n : ℕ) → count n xs ≡ count n ys) → xs ≡ ys
one_ascending [] [] a b same = refl
one_ascending [] (y ∷ ys) a b same =
    let s = same y in let c = sum_by-cons (is_it y) y ys in let o = it_is y y refl in absurd (let z : ⊥ = omega (arith, s, c, o) in z)
one_ascending (x ∷ xs) [] a b same =
    let s = same x in let c = sum_by-cons (is_it x) x xs in let o = it_is x x refl in absurd (let z : ⊥ = omega (arith, s, c, o) in z)
one_ascending (x ∷ xs) (y ∷ ys) a b same =
    let cx = sum_by-cons (is_it x) x xs in
    let cy = sum_by-cons (is_it y) y ys in
    let ox = it_is x x refl in
    let oy = it_is y y refl in
    let sx = same x in
    let sy = same y in
    let le : x ≤ y = ⊎_elim (λ (e : y ≡ x). omega (arith, e)) (λ h. a.0 y h) (in_of_count y (x ∷ xs) (omega (arith, sy, cy, oy))) in
    let ge : y ≤ x = ⊎_elim (λ (e : x ≡ y). omega (arith, e)) (λ h. b.0 x h) (in_of_count x (y ∷ ys) (omega (arith, sx, cx, ox))) in
    let e : x ≡ y = omega (arith, le, ge) in
    ap (λ n. n ∷ xs) e ∙ ap (λ zs. y ∷ zs) (one_ascending xs ys a.1 b.1 (λ n.
    let s = same n in
    let c = sum_by-cons (is_it n) x xs in
    let d = sum_by-cons (is_it n) y ys in
    let f : is_it n x ≡ is_it n y = ap (is_it n) e in
    omega (arith, s, c, d, f)))

-- ---- the sorted list

inserted_count : (n x : ℕ) (ys : List ℕ) → count n (with_inserted nat_lt x ys) ≡ is_it n x + count n ys
inserted_count n x [] = sum_by-cons (is_it n) x []
inserted_count n x (y ∷ ys) = go (nat_lt y x) (inserted_count n x ys)
  where
    go : (b : Bool) → count n (with_inserted nat_lt x ys) ≡ is_it n x + count n ys → count n (cond b (y ∷ with_inserted nat_lt x ys) (x ∷ y ∷ ys)) ≡ is_it n x + count n (y ∷ ys)
    go true ih =
        let c = sum_by-cons (is_it n) y (with_inserted nat_lt x ys) in
        let d = sum_by-cons (is_it n) y ys in
        omega (arith, c, d, ih)
    go false ih = sum_by-cons (is_it n) x (y ∷ ys)

pub sorted_count : (n : ℕ) (xs : List ℕ) → count n (sorted_by nat_lt xs) ≡ count n xs
sorted_count n [] = refl
sorted_count n (x ∷ xs) =
    let c = inserted_count n x (sorted_by nat_lt xs) in
    let d = sum_by-cons (is_it n) x xs in
    let ih = sorted_count n xs in
    omega (arith, c, d, ih)

in_inserted : (x z : ℕ) (ys : List ℕ) → IsIn z (with_inserted nat_lt x ys) → (z ≡ x) ⊎ IsIn z ys
in_inserted x z [] h = h
in_inserted x z (y ∷ ys) h = go (nat_lt y x) h (in_inserted x z ys)
  where
    go : (b : Bool) → IsIn z (cond b (y ∷ with_inserted nat_lt x ys) (x ∷ y ∷ ys)) → (IsIn z (with_inserted nat_lt x ys) → (z ≡ x) ⊎ IsIn z ys) → (z ≡ x) ⊎ ((z ≡ y) ⊎ IsIn z ys)
    go true h later = ⊎_elim (λ e. inr (inl e)) (λ i. ⊎_elim (λ e. inl e) (λ j. inr (inr j)) (later i)) h
    go false h later = h

inserted_ascends : (x : ℕ) (ys : List ℕ) → Ascends ys → Ascends (with_inserted nat_lt x ys)
inserted_ascends x [] a = (λ y h. absurd h, tt)
inserted_ascends x (y ∷ ys) a = go (nat_lt y x) refl (inserted_ascends x ys a.1)
  where
    go : (b : Bool) → nat_lt y x ≡ b → Ascends (with_inserted nat_lt x ys) → Ascends (cond b (y ∷ with_inserted nat_lt x ys) (x ∷ y ∷ ys))
    go true e ih =
        let lt = ltb-true y x e in
        (λ z h. ⊎_elim (λ (f : z ≡ x). omega (arith, lt, f)) (λ i. a.0 z i) (in_inserted x z ys h), ih)
    go false e ih =
        let le : x ≤ y = ⊎_elim (λ (lt : y < x). absurd (both_ways (nat_lt y x) e (lt-ltb y x lt))) (λ (ge : x ≤ y). ge) (cases_lt y x) in
        (λ z h. ⊎_elim (λ (f : z ≡ y). omega (arith, le, f)) (λ i. let k = a.0 z i in omega (arith, le, k)) h, a)

pub sorted_ascends : (xs : List ℕ) → Ascends (sorted_by nat_lt xs)
sorted_ascends [] = tt
sorted_ascends (x ∷ xs) = inserted_ascends x (sorted_by nat_lt xs) (sorted_ascends xs)

-- ---- permuted items

-- what an entry counts for
kept_net : ℕ → (Entry → Bool) → Entry → ℕ
kept_net n test e = cond (test e) (is_it n e.net) 0

kept_step : (n : ℕ) (e : Entry) (rest : List Entry) (b : Bool) → count n (map (λ x. x.net) (cond b (e ∷ rest) rest)) ≡ cond b (is_it n e.net) 0 + count n (map (λ x. x.net) rest)
kept_step n e rest true = sum_by-cons (is_it n) e.net (map (λ x. x.net) rest)
kept_step n e rest false = omega arith

kept_count : (n : ℕ) (test : Entry → Bool) (items : List Entry) → count n (map (λ x. x.net) (filter test items)) ≡ sum_by (λ e. cond (test e) (is_it n e.net) 0) items
kept_count n test [] = refl
kept_count n test (e ∷ es) =
    let c = kept_step n e (filter test es) (test e) in
    let ih = kept_count n test es in
    let d = sum_by-cons (λ x. cond (test x) (is_it n x.net) 0) e es in
    omega (arith, c, ih, d)

pub permuted_inside : (items es : List Entry) (p : Cidr) → IsPermutation items es → nets_inside items p ≡ nets_inside es p
permuted_inside items es p perm =
    let test : Entry → Bool = λ e. is_inside e.prefix p in
    let xs = map (λ e. e.net) (filter test items) in
    let ys = map (λ e. e.net) (filter test es) in
    one_ascending (sorted_by nat_lt xs) (sorted_by nat_lt ys) (sorted_ascends xs) (sorted_ascends ys) (λ n.
    sorted_count n xs ∙ (kept_count n test items ∙ (sym (sum_by-IsPermutation (λ e. cond (test e) (is_it n e.net) 0) items es perm) ∙ (sym (kept_count n test es) ∙ sym (sorted_count n ys)))))

-- ---- numbers that the code has sorted

ascends_from : (xs : List NetId) → IsNonDecreasingBy (λ (n : NetId). n.0) xs → Ascends (map net_of xs)
ascends_from [] up = tt
ascends_from (x ∷ xs) up = (
  λ y h.
      let w = in_contains (map net_of xs) y h in
      let b = w.1 in
      let n = length-map xs net_of in
      let below : w.0 < length xs = omega (arith, b, n) in
      let k = up 0 (suc w.0) x (omega arith) (omega (arith, below)) in
      let e : (slice_index_or xs w.0 x).0 ≡ y = sym (get_or-map net_of xs w.0 x y below) ∙ w.2 in
      omega (arith, k, e),
  ascends_from xs (λ i j d le below. up (suc i) (suc j) d (omega (arith, le)) (omega (arith, below))),
)

pub sorted_found : (found new : List NetId) (wanted : List ℕ) → IsPermutation found new → IsNonDecreasingBy (λ (n : NetId). n.0) new → map net_of found ≡ wanted → map net_of new ≡ sorted_by nat_lt wanted
sorted_found found new wanted perm up e =
    one_ascending (map net_of new) (sorted_by nat_lt wanted) (ascends_from new up) (sorted_ascends wanted) (λ n.
    sum_by-IsPermutation (is_it n) (map net_of found) (map net_of new) (IsPermutation-map net_of found new perm) ∙ (ap (count n) e ∙ sym (sorted_count n wanted)))

map_kept : (p : Cidr) (ks : List Knot) → map (λ k. k.net) (filter (λ k. is_inside k.prefix p) ks) ≡ map (λ e. e.net) (filter (λ e. is_inside e.prefix p) (map entry_of_knot ks))
map_kept p [] = refl
map_kept p (k ∷ ks) = go (is_inside k.prefix p) (map_kept p ks)
  where
    go : (b : Bool) → map (λ x. x.net) (filter (λ x. is_inside x.prefix p) ks) ≡ map (λ e. e.net) (filter (λ e. is_inside e.prefix p) (map entry_of_knot ks)) →
        map (λ x. x.net) (cond b (k ∷ filter (λ x. is_inside x.prefix p) ks) (filter (λ x. is_inside x.prefix p) ks))
        ≡ map (λ e. e.net) (cond b (entry_of_knot k ∷ filter (λ e. is_inside e.prefix p) (map entry_of_knot ks)) (filter (λ e. is_inside e.prefix p) (map entry_of_knot ks)))
    go true ih = ap (λ xs. k.net ∷ xs) ih
    go false ih = ih

pub picked_inside : (p : Cidr) (ks : List Knot) → sorted_by nat_lt (picked p ks (length ks)) ≡ nets_inside (map entry_of_knot ks) p
picked_inside p ks = ap (sorted_by nat_lt) (picked_all p ks ∙ map_kept p ks)

pub inside_answer : (p : Cidr) (nodes others : List Node) (found new : List NetId) → IsPermutation found new → IsNonDecreasingBy (λ (n : NetId). n.0) new → map net_of found ≡ picked p (map knot_of nodes) (length nodes) → nodes ≡ others →
    map net_of new ≡ nets_inside (map entry_of_knot (map knot_of others)) p
inside_answer p nodes others found new perm up e same =
    let n = length-map nodes knot_of in
    sorted_found found new (picked p (map knot_of nodes) (length nodes)) perm up e
    ∙ (ap (λ k. sorted_by nat_lt (picked p (map knot_of nodes) k)) (sym n) ∙ (picked_inside p (map knot_of nodes) ∙ ap (λ xs. nets_inside (map entry_of_knot (map knot_of xs)) p) same))
