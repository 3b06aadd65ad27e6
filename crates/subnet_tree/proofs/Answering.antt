-- The entries in order answer as the items do.
use Rattle.std.proofs.Common.{◌≡◌, ◌≢◌, ℕ, zero, suc, ◌<◌, ◌≤◌, ◌⊎◌, inl, inr, true, cond, List, length, map, refl, sym, ap, subst, ◌∙◌, ⊎_elim, arith}
use Rattle.std.specs.Prelude.{Option, Some, None, ◌==◌, nat_lt, filter, option_map, slice_index_or}
use Rattle.std.specs.List.{Contains}
use Rattle.std.specs.List.Sorted.{IsPermutation}
use Rattle.std.specs.Option.{option_and_then}
use Rattle.std.proofs.lemmas.List.{get_or-map, length-map}
use Rattle.std.proofs.lemmas.List.Elements.{Contains-get_or}
use Rattle.std.proofs.lemmas.List.Sorted.{Contains-permutation, IsPermutation-sym}
use Rattle.std.proofs.lemmas.Bool.{and_parts, and_from, cases_lt, cases_eq, ltb-true, lt-ltb, eqb-true, eq-eqb, both_ways, false_from_ne_true}
use Rattle.spoc_base.specs.Address.{Cidr, IsCidr, prefix_holds, is_inside}
use Rattle.policy_model.proofs.AllWalks.{IsIn}
use Rattle.list_laws.proofs.Nesting.{holds_parts, holds_net, inside_from, inside_parts}
use Rattle.subnet_tree.specs.Entries.{Entry, no_entry, HaveDistinctNumbers, HaveDistinctPrefixes, Precedes, AreInOrder, longest, place_in, encloses, parent_in}
use Rattle.subnet_tree.specs.Knots.{Knot, no_knot, knot_at, last_below, last_holding, AreKnots, entry_of_knot, above_at, assigned}
use Rattle.subnet_tree.proofs.Climbing.{IsLast, last_found, last_none}
use Rattle.subnet_tree.proofs.Sorting.{cidr_equal}
use Rattle.subnet_tree.proofs.Longest.{contains_in, in_contains, longest_one, longest_none, find_one, find_none, distinct_permuted, one_of_number}

pub record AreOrdered (items : List Entry) (ks : List Knot) : Type 0 where
  pub knots : AreKnots ks
  pub permutation : IsPermutation items (map entry_of_knot ks)
  pub order : AreInOrder (map entry_of_knot ks)
  pub proper : (k : ℕ) → k < length ks → IsCidr (knot_at ks k).prefix
  pub numbers : HaveDistinctNumbers items
  pub prefixes : HaveDistinctPrefixes items

module _ (items : List Entry) (ks : List Knot) (all : AreOrdered items ks) where
  abbrev entry : ℕ → Entry
  entry k = entry_of_knot (knot_at ks k)

  abbrev prefix : ℕ → Cidr
  prefix k = (knot_at ks k).prefix

  at_entry : (k : ℕ) (d : Entry) → k < length ks → slice_index_or (map entry_of_knot ks) k d ≡ entry k
  at_entry k d below = get_or-map entry_of_knot ks k no_knot d below

  as_many : length (map entry_of_knot ks) ≡ length ks
  as_many = length-map ks entry_of_knot

  record Place (e : Entry) : Type 0 where
    k : ℕ
    below : k < length ks
    is : entry k ≡ e

  find_place : (e : Entry) → IsIn e items → Place e
  find_place e h =
      let c = Contains-permutation items (map entry_of_knot ks) e all.permutation (in_contains items e h) in
      let b = c.1 in let n = as_many in
      let below : c.0 < length ks = omega (arith, b, n) in
      record { k = c.0; below = below; is = sym (at_entry c.0 e below) ∙ c.2 }

  there : (k : ℕ) → k < length ks → IsIn (entry k) items
  there k below =
      let n = as_many in
      let c = Contains-get_or (map entry_of_knot ks) k no_entry (omega (arith, below, n)) in
      let d : Contains (map entry_of_knot ks) (entry k) = subst (Contains (map entry_of_knot ks)) (at_entry k no_entry below) c in
      contains_in items (entry k) (Contains-permutation (map entry_of_knot ks) items (entry k) (IsPermutation-sym items (map entry_of_knot ks) all.permutation) d)

  precedes : (i j : ℕ) → i < j → j < length ks → Precedes (entry i) (entry j)
  precedes i j lt below =
      let n = as_many in
      subst (λ e. Precedes e (entry j)) (at_entry i no_entry (omega (arith, lt, below)))
      (subst (λ e. Precedes (slice_index_or (map entry_of_knot ks) i no_entry) e) (at_entry j no_entry below) (all.order i j no_entry lt (omega (arith, below, n))))

  apart : (i j : ℕ) → i < j → j < length ks → (entry i).net ≡ (entry j).net → ⊥
  apart i j lt below e =
      let n = as_many in
      distinct_permuted items (map entry_of_knot ks) all.permutation all.numbers i j no_entry lt (omega (arith, below, n))
      (ap (λ x. x.net) (at_entry i no_entry (omega (arith, lt, below))) ∙ (e ∙ sym (ap (λ x. x.net) (at_entry j no_entry below))))

  strict : (i j : ℕ) → i < j → j < length ks → (prefix i).net ≡ (prefix j).net → (prefix i).len < (prefix j).len
  strict i j lt below e =
      let le = (precedes i j lt below).lengths e in
      ⊎_elim (λ (less : (prefix i).len < (prefix j).len). less)
      (λ (ge : (prefix j).len ≤ (prefix i).len).
      absurd (apart i j lt below (all.prefixes (entry i) (entry j) (in_contains items (entry i) (there i (omega (arith, lt, below)))) (in_contains items (entry j) (there j below))
      (cidr_equal (prefix i) (prefix j) e (omega (arith, le, ge))))))
      (cases_lt (prefix i).len (prefix j).len)

  -- of two that hold an address, the earlier one is shorter
  shorter : (a i j : ℕ) → i < j → j < length ks → prefix_holds (prefix i) a ≡ true → prefix_holds (prefix j) a ≡ true → (prefix i).len < (prefix j).len
  shorter a i j lt below hi hj =
      ⊎_elim (λ (less : (prefix i).len < (prefix j).len). less)
      (λ (ge : (prefix j).len ≤ (prefix i).len).
      let inside = inside_from (prefix i) (prefix j) a (all.proper i (omega (arith, lt, below))) (all.proper j below) ge hi hj in
      let low = (holds_parts (prefix j) (prefix i).net (inside_parts (prefix i) (prefix j) inside).1).low in
      let n = (precedes i j lt below).nets in
      let s = strict i j lt below (omega (arith, low, n)) in
      absurd (let z : ⊥ = omega (arith, s, ge) in z))
      (cases_lt (prefix i).len (prefix j).len)

  last_longest : (a n i : ℕ) → n ≤ length ks → IsLast (λ k. prefix_holds (prefix k) a) n i → (k : ℕ) → k < n → prefix_holds (prefix k) a ≡ true → (k ≡ i) ⊎ ((prefix k).len < (prefix i).len)
  last_longest a n i le last k below h =
      ⊎_elim
      (λ (lt : k < i). let b = last.below in inr (shorter a k i lt (omega (arith, b, le)) h last.passes))
      (λ (ge : i ≤ k). ⊎_elim
      (λ (gt : i < k). absurd (both_ways (prefix_holds (prefix k) a) (last.last k gt below) h))
      (λ (same : k ≤ i). inl (omega (arith, ge, same)))
      (cases_lt i k))
      (cases_lt k i)

  -- ---- the place of an address

  pub placed : (a : ℕ) → place_in items a ≡ option_map (λ i. (knot_at ks i).net) (last_holding ks a (length ks))
  unfolding last_holding
  placed a = go (last_below (λ k. prefix_holds (prefix k) a) (length ks)) refl
    where
      go : (o : Option ℕ) → last_below (λ k. prefix_holds (prefix k) a) (length ks) ≡ o → place_in items a ≡ option_map (λ i. (knot_at ks i).net) o
      go None e =
          longest_none (λ x. prefix_holds x.prefix a) items (λ x h.
          let w = find_place x h in
          ap (λ y. prefix_holds y.prefix a) (sym w.is) ∙ last_none (λ k. prefix_holds (prefix k) a) (length ks) e w.k w.below)
      go (Some i) e =
          let last = last_found (λ k. prefix_holds (prefix k) a) (length ks) i e in
          longest_one (λ x. prefix_holds x.prefix a) items (entry i) (there i last.below) last.passes (λ y h t.
          let w = find_place y h in
          ⊎_elim (λ (s : w.k ≡ i). inl (sym w.is ∙ ap entry s)) (λ (less : (prefix w.k).len < (prefix i).len). inr (subst (λ z. z.prefix.len < (prefix i).len) w.is less))
          (last_longest a (length ks) i (omega arith) last w.k w.below (ap (λ z. prefix_holds z.prefix a) w.is ∙ t)))

  -- ---- the network above

  -- what encloses an entry is before it and holds its address
  record IsBefore (k j : ℕ) : Type 0 where
    earlier : j < k
    holds : prefix_holds (prefix j) (prefix k).net ≡ true

  before : (k j : ℕ) → k < length ks → j < length ks → encloses (prefix j) (prefix k) ≡ true → IsBefore k j
  before k j bk bj e =
      let w = and_parts (is_inside (prefix k) (prefix j)) (nat_lt (prefix j).len (prefix k).len) e in
      let holds = (inside_parts (prefix k) (prefix j) w.0).1 in
      let less = ltb-true (prefix j).len (prefix k).len w.1 in
      let low = (holds_parts (prefix j) (prefix k).net holds).low in
      record {
        earlier = ⊎_elim (λ (lt : j < k). lt)
            (λ (ge : k ≤ j). ⊎_elim
            (λ (gt : k < j).
            let n = (precedes k j gt bj).nets in
            let s = strict k j gt bj (omega (arith, n, low)) in
            absurd (let z : ⊥ = omega (arith, s, less) in z))
            (λ (le : j ≤ k). let same : j ≡ k = omega (arith, ge, le) in let l = ap (λ x. (prefix x).len) same in absurd (let z : ⊥ = omega (arith, l, less) in z))
            (cases_lt k j))
            (cases_lt j k);
        holds = holds;
      }

  enclosing : (k j : ℕ) → k < length ks → j < k → prefix_holds (prefix j) (prefix k).net ≡ true → encloses (prefix j) (prefix k) ≡ true
  enclosing k j bk lt h =
      let s = shorter (prefix k).net j k lt bk h (holds_net (prefix k)) in
      and_from (is_inside (prefix k) (prefix j)) (nat_lt (prefix j).len (prefix k).len)
      (inside_from (prefix k) (prefix j) (prefix k).net (all.proper k bk) (all.proper j (omega (arith, lt, bk))) (omega (arith, s)) (holds_net (prefix k)) h) (lt-ltb (prefix j).len (prefix k).len s)

  abbrev next_above : ℕ → Option ℕ
  next_above k = longest (filter (λ e. encloses e.prefix (prefix k)) items)

  above_is : (k : ℕ) → k < length ks → next_above k ≡ above_at ks (knot_at ks k).above None
  unfolding last_holding
  above_is k below = go (knot_at ks k).above (sym (all.knots.linked k below))
    where
      own : ℕ
      own = (prefix k).net

      go : (o : Option ℕ) → last_below (λ j. prefix_holds (prefix j) own) k ≡ o → next_above k ≡ above_at ks o None
      go None e =
          longest_none (λ x. encloses x.prefix (prefix k)) items (λ x h.
          let w = find_place x h in
          false_from_ne_true (encloses x.prefix (prefix k)) (λ t.
          let b = before k w.k below w.below (ap (λ z. encloses z.prefix (prefix k)) w.is ∙ t) in
          both_ways (prefix_holds (prefix w.k) own) (last_none (λ j. prefix_holds (prefix j) own) k e w.k b.earlier) b.holds))
      go (Some i) e =
          let last = last_found (λ j. prefix_holds (prefix j) own) k i e in
          let lower = last.below in
          longest_one (λ x. encloses x.prefix (prefix k)) items (entry i) (there i (omega (arith, lower, below))) (enclosing k i below last.below last.passes) (λ y h t.
          let w = find_place y h in
          let b = before k w.k below w.below (ap (λ z. encloses z.prefix (prefix k)) w.is ∙ t) in
          ⊎_elim (λ (s : w.k ≡ i). inl (sym w.is ∙ ap entry s)) (λ (less : (prefix w.k).len < (prefix i).len). inr (subst (λ z. z.prefix.len < (prefix i).len) w.is less))
          (last_longest own k i (omega (arith, below)) last w.k b.earlier b.holds))

  -- ---- by number

  record IsAssigned (q : ℕ) (o : Option ℕ) : Type 0 where
    found : (k : ℕ) → k < length ks → (knot_at ks k).net ≡ q → o ≡ above_at ks (knot_at ks k).above None

  none_assigned : (q n : ℕ) → ((k : ℕ) → k < n → (knot_at ks k).net ≢ q) → assigned ks q n ≡ None
  none_assigned q zero none = refl
  none_assigned q (suc n) none =
      ap (λ b. cond b (above_at ks (knot_at ks n).above (assigned ks q n)) (assigned ks q n)) (false_from_ne_true ((knot_at ks n).net == q) (λ t. none n (omega arith) (eqb-true (knot_at ks n).net q t)))
      ∙ none_assigned q n (λ k below. none k (omega (arith, below)))

  assigned_at : (q n k : ℕ) → n ≤ length ks → k < n → (knot_at ks k).net ≡ q → assigned ks q n ≡ above_at ks (knot_at ks k).above None
  assigned_at q zero k le below is = absurd (let z : ⊥ = omega (arith, below) in z)
  assigned_at q (suc n) k le below is =
      ⊎_elim
      (λ (same : n ≡ k).
      let e : (knot_at ks n).net ≡ q = ap (λ j. (knot_at ks j).net) same ∙ is in
      ap (λ b. cond b (above_at ks (knot_at ks n).above (assigned ks q n)) (assigned ks q n)) (eq-eqb (knot_at ks n).net q e)
      ∙ (ap (above_at ks (knot_at ks n).above) (none_assigned q n (λ j lt f. apart j n lt (omega (arith, le)) (f ∙ sym e)))
      ∙ ap (λ j. above_at ks (knot_at ks j).above None) same))
      (λ (other : n ≢ k).
      let lt : k < n = omega (arith, below, other) in
      ap (λ b. cond b (above_at ks (knot_at ks n).above (assigned ks q n)) (assigned ks q n)) (false_from_ne_true ((knot_at ks n).net == q) (λ t. apart k n lt (omega (arith, le)) (is ∙ sym (eqb-true (knot_at ks n).net q t))))
      ∙ assigned_at q n k (omega (arith, le)) lt is)
      (cases_eq n k)

  parent_at : (k : ℕ) → k < length ks → parent_in items (knot_at ks k).net ≡ next_above k
  parent_at k below =
      ap (option_and_then (λ own. longest (filter (λ e. encloses e.prefix own.prefix) items)))
      (find_one (λ e. e.net == (knot_at ks k).net) (entry k) items (there k below) (eq-eqb (knot_at ks k).net (knot_at ks k).net refl)
      (λ y h t. one_of_number items y (entry k) all.numbers h (there k below) (eqb-true y.net (knot_at ks k).net t)))

  some_with : (q n : ℕ) → n ≤ length ks → ((k : ℕ) × (k < n) × ((knot_at ks k).net ≡ q)) ⊎ ((k : ℕ) → k < n → (knot_at ks k).net ≢ q)
  some_with q zero le = inr (λ k below e. let z : ⊥ = omega (arith, below) in z)
  some_with q (suc n) le =
      ⊎_elim (λ (e : (knot_at ks n).net ≡ q). inl (n, omega arith, e))
      (λ ne. ⊎_elim (λ w. let b = w.1 in inl (w.0, omega (arith, b), w.2))
      (λ none. inr (λ k below e. ⊎_elim (λ (lt : k < n). none k lt e) (λ (ge : n ≤ k). let s : k ≡ n = omega (arith, ge, below) in ne (ap (λ j. (knot_at ks j).net) (sym s) ∙ e)) (cases_lt k n)))
      (some_with q n (omega (arith, le))))
      (cases_eq (knot_at ks n).net q)

  pub assigned_parents : (q : ℕ) → parent_in items q ≡ assigned ks q (length ks)
  assigned_parents q =
      ⊎_elim
      (λ w. ap (parent_in items) (sym w.2) ∙ (parent_at w.0 w.1 ∙ (above_is w.0 w.1 ∙ sym (assigned_at q (length ks) w.0 (omega arith) w.1 w.2))))
      (λ none.
      ap (option_and_then (λ own. longest (filter (λ e. encloses e.prefix own.prefix) items)))
      (find_none (λ e. e.net == q) items (λ x h. let w = find_place x h in false_from_ne_true (x.net == q) (λ t. none w.k w.below (ap (λ z. z.net) w.is ∙ eqb-true x.net q t))))
      ∙ sym (none_assigned q (length ks) none))
      (some_with q (length ks) (omega arith))
