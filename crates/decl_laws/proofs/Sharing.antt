-- The sets of interfaces that share an address.
use Rattle.std.proofs.Common.{◌≡◌, ℕ, zero, suc, ◌+◌, ◌<◌, ◌≤◌, inl, inr, Bool, true, false, not, ◌&&◌, cond, List, [], ◌∷◌, ◌++◌, length, map, refl, sym, ap, subst, ◌∙◌, ⊎_elim, arith}
use Rattle.std.specs.Prelude.{◌==◌, is_some, filter, flat_map}
use Rattle.std.specs.List.{range_with_len}
use Rattle.std.proofs.lemmas.Bool.{false≢true, and_parts, and_from, eqb-true, eq-eqb, ne_eqb, not_from_false, false_from_ne_true}
use Rattle.std.proofs.lemmas.List.{length-map}
use Rattle.std.proofs.lemmas.List.FromFn.{length-range_with_len}
use Rattle.policy_model.specs.Lists.{has, are_distinct}
use Rattle.policy_model.specs.Policy.{Policy, iface_of, net_at, all_nets, all_ifaces}
use Rattle.policy_model.specs.Walks.{sharing_ifaces, sharers, begins_set, shared_sets}
use Rattle.policy_model.proofs.AllWalks.{IsIn, in_numbers, from_map, length-le_of_distinct}
use Rattle.list_laws.proofs.Members.{some_in, some_of, from_filter, in_either}
use Rattle.list_laws.proofs.Tables.{from_flat_map}
use Rattle.topology.specs.Sound as sound
use Rattle.decl_laws.proofs.Places.{in_range, map_flat_map}

-- ---- ascending numbers

abbrev Ascend : List ℕ → Type 0
Ascend [] = Unit {0}
Ascend (x ∷ xs) = ((y : ℕ) → IsIn y xs → x < y) × Ascend xs

from_start : (a n k : ℕ) → IsIn k (range_with_len a n) → a ≤ k
from_start a zero k h = absurd h
from_start a (suc n) k (inl e) = omega (arith, e)
from_start a (suc n) k (inr h) = let w = from_start (a + 1) n k h in omega (arith, w)

range_ascends : (a n : ℕ) → Ascend (range_with_len a n)
range_ascends a zero = tt
range_ascends a (suc n) = ((λ y h. let w = from_start (a + 1) n y h in omega (arith, w)), range_ascends (a + 1) n)

kept_ascends : (test : ℕ → Bool) (x : ℕ) (xs : List ℕ) (b : Bool) → ((y : ℕ) → IsIn y xs → x < y) → Ascend (filter test xs) → Ascend (cond b (x ∷ filter test xs) (filter test xs))
kept_ascends test x xs true far h = ((λ y g. far y (from_filter test y xs g).0), h)
kept_ascends test x xs false far h = h

filter_ascends : (test : ℕ → Bool) (xs : List ℕ) → Ascend xs → Ascend (filter test xs)
filter_ascends test [] h = tt
filter_ascends test (x ∷ xs) h = kept_ascends test x xs (test x) h.0 (filter_ascends test xs h.1)

-- ---- distinct numbers

lacks : (xs : List ℕ) (x : ℕ) → (IsIn x xs → ⊥) → not (has xs x) ≡ true
lacks xs x f =
    not_from_false (has xs x)
    (false_from_ne_true (has xs x) (λ t. let w = some_in (λ y. y == x) xs t in f (subst (λ (n : ℕ). IsIn n xs) (eqb-true w.0 x w.2) w.1)))

has_it : (xs : List ℕ) (x : ℕ) → IsIn x xs → has xs x ≡ true
has_it xs x h = some_of (λ y. y == x) x xs h (eq-eqb x x refl)

lacked : (xs : List ℕ) (x : ℕ) → not (has xs x) ≡ true → IsIn x xs → ⊥
lacked xs x e h = false≢true (sym (ap not (has_it xs x h)) ∙ e)

ascending_distinct : (xs : List ℕ) → Ascend xs → are_distinct xs ≡ true
ascending_distinct [] h = refl
ascending_distinct (x ∷ xs) h = and_from (not (has xs x)) (are_distinct xs) (lacks xs x (λ g. let w = h.0 x g in omega (arith, w))) (ascending_distinct xs h.1)

joined_distinct : (xs ys : List ℕ) → are_distinct xs ≡ true → are_distinct ys ≡ true → ((x : ℕ) → IsIn x xs → IsIn x ys → ⊥) → are_distinct (xs ++ ys) ≡ true
joined_distinct [] ys h g apart = g
joined_distinct (x ∷ xs) ys h g apart =
    let w = and_parts (not (has xs x)) (are_distinct xs) h in
    and_from (not (has (xs ++ ys) x)) (are_distinct (xs ++ ys)) (lacks (xs ++ ys) x (λ k. ⊎_elim (lacked xs x w.0) (apart x (inl refl)) (in_either x xs ys k)))
    (joined_distinct xs ys w.1 g (λ y k. apart y (inr k)))

-- ---- the sets of a policy

module _ (p : Policy) where
  abbrev firsts_at : ℕ → List ℕ
  firsts_at n = filter (λ i. (net_at p i == n) && begins_set i (sharers p i)) (sharing_ifaces p)

  -- the interfaces that begin a set
  abbrev pub firsts : List ℕ
  firsts = flat_map firsts_at (all_nets p)

  pub sets_by_first : shared_sets p ≡ map (sharers p) firsts
  sets_by_first = sym (map_flat_map (sharers p) firsts_at (all_nets p))

  sharing_ascends : Ascend (sharing_ifaces p)
  sharing_ascends = filter_ascends (λ i. is_some (iface_of p i).shared) (all_ifaces p) (range_ascends 0 (length p.ifaces))

  pub is_sharing : (i : ℕ) → IsIn i (sharing_ifaces p) → (i < length p.ifaces) × (is_some (iface_of p i).shared ≡ true)
  is_sharing i h =
      let w = from_filter (λ j. is_some (iface_of p j).shared) i (all_ifaces p) h in
      let below = in_range 0 (length p.ifaces) i w.0 in
      (omega (arith, below), w.1)

  from_firsts : (n i : ℕ) → IsIn i (firsts_at n) → IsIn i (sharing_ifaces p) × (net_at p i ≡ n) × (begins_set i (sharers p i) ≡ true)
  from_firsts n i h =
      let w = from_filter (λ j. (net_at p j == n) && begins_set j (sharers p j)) i (sharing_ifaces p) h in
      let v = and_parts (net_at p i == n) (begins_set i (sharers p i)) w.1 in
      (w.0, eqb-true (net_at p i) n v.0, v.1)

  firsts_distinct : (a n : ℕ) → are_distinct (flat_map firsts_at (range_with_len a n)) ≡ true
  firsts_distinct a zero = refl
  firsts_distinct a (suc n) =
      joined_distinct (firsts_at a) (flat_map firsts_at (range_with_len (a + 1) n))
      (ascending_distinct (firsts_at a) (filter_ascends (λ i. (net_at p i == a) && begins_set i (sharers p i)) (sharing_ifaces p) sharing_ascends)) (firsts_distinct (a + 1) n)
      (λ x h g. let w = from_flat_map firsts_at x (range_with_len (a + 1) n) g in
      let here = (from_firsts a x h).1 in
      let there = (from_firsts w.0 x w.2).1 in
      let late = from_start (a + 1) n w.0 w.1 in
      omega (arith, here, there, late))

  first_there : (i : ℕ) → IsIn i firsts → i < length p.ifaces
  first_there i h = let w = from_flat_map firsts_at i (all_nets p) h in (is_sharing i (from_firsts w.0 i w.2).0).0

  -- there are no more sets than interfaces
  pub few_sets : length (shared_sets p) ≤ length p.ifaces
  few_sets =
      let fewer = length-le_of_distinct firsts (all_ifaces p) (firsts_distinct 0 (length p.nets)) (λ i h. in_numbers (length p.ifaces) i (first_there i h)) in
      let many = ap length sets_by_first in
      let mapped = length-map firsts (sharers p) in
      let all = length-range_with_len 0 (length p.ifaces) in
      omega (arith, fewer, many, mapped, all)

  two_begin : (i : ℕ) (xs : List ℕ) → Ascend xs → begins_set i xs ≡ true → sound.has_two xs ≡ true
  two_begin i [] h b = absurd (false≢true b)
  two_begin i (j ∷ []) h b = absurd (false≢true b)
  two_begin i (j ∷ k ∷ rest) h b = some_of (λ m. not (j == m)) k (k ∷ rest) (inl refl) (not_from_false (j == k) (ne_eqb j k (λ e. let w = h.0 k (inl refl) in omega (arith, e, w))))

  -- a set that is listed has two different members, and each of them shares an address
  pub record IsSharedSet (members : List ℕ) : Type 0 where
    pub two : sound.has_two members ≡ true
    pub each : (i : ℕ) → IsIn i members → IsIn i (sharing_ifaces p)

  sharers_share : (i j : ℕ) → IsIn j (sharers p i) → IsIn j (sharing_ifaces p)
  sharers_share i j h = (from_filter _ j (sharing_ifaces p) h).0

  pub set_shared : (members : List ℕ) → IsIn members (shared_sets p) → IsSharedSet members
  set_shared members h =
      let v = from_map (sharers p) members firsts (subst (λ (sets : List (List ℕ)). IsIn members sets) sets_by_first h) in
      let w = from_flat_map firsts_at v.0 (all_nets p) v.1 in
      let f = from_firsts w.0 v.0 w.2 in
      let two : sound.has_two (sharers p v.0) ≡ true = two_begin v.0 (sharers p v.0) (filter_ascends _ (sharing_ifaces p) sharing_ascends) f.2 in
      record {
        two = ap sound.has_two v.2 ∙ two;
        each = λ i g. sharers_share v.0 i (subst (λ (xs : List ℕ). IsIn i xs) v.2 g);
      }
