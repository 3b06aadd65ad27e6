-- Rows that list what is in force are the views.
use Rattle.std.proofs.Common.{◌≡◌, ℕ, zero, suc, ◌+◌, ◌-◌, ◌<◌, ◌≤◌, Bool, true, false, not, ◌&&◌, List, [], ◌∷◌, length, map, refl, sym, ap, subst, ◌∙◌, ⊎_elim, arith}
use Rattle.std.specs.Prelude.{◌==◌, ◌↔◌, max, fold, nat_lt, slice_index, slice_index_or}
use Rattle.std.specs.List.{list_any, list_all, range_with_len}
use Rattle.std.proofs.Math.Nat.{le-max_left, le-max_right}
use Rattle.std.proofs.lemmas.Bool.{and_parts, and_from, or_cases, or_left, or_right, eqb-true, eq-eqb, ltb-true, cases_lt, false≢true}
use Rattle.policy_model.specs.Lists.{has}
use Rattle.policy_model.specs.Policy.{router_at, net_at, iface_of, all_routers}
use Rattle.policy_model.specs.Zones.{Site, zone_at, zone_count}
use Rattle.policy_model.specs.Tags.{Views, AreViews, IsActive, binds, inner_tags, ifaces_of, zone_view}
use Rattle.zone_graph.specs.Labels.{AreNumbers}
use Rattle.topology.specs.Sound.{IsNumbered}
use Rattle.nat_domains.specs.Inner.{IsActiveIn, IsInnerTag}
use Rattle.nat_domains.specs.Rows.{AreListed}
use Rattle.nat_domains.proofs.Members.{has_kept, kept_has}
use Rattle.nat_domains.proofs.Listing.{listed_ascending, listed_holds, holds_listed, listed_by}

-- ---- tests of all and of some

pub all_in : (test : ℕ → Bool) (xs : List ℕ) (n : ℕ) → list_all test xs ≡ true → has xs n ≡ true → test n ≡ true
all_in test [] n all here = absurd (false≢true here)
all_in test (x ∷ xs) n all here =
    let a = and_parts (test x) (list_all test xs) all in
    ⊎_elim (λ e. subst (λ (k : ℕ). test k ≡ true) (eqb-true x n e) a.0) (λ g. all_in test xs n a.1 g) (or_cases (x == n) (has xs n) here)

all_from : (test : ℕ → Bool) (xs : List ℕ) → ((n : ℕ) → has xs n ≡ true → test n ≡ true) → list_all test xs ≡ true
all_from test [] h = refl
all_from test (x ∷ xs) h =
    and_from (test x) (list_all test xs) (h x (or_left (x == x) (has xs x) (eq-eqb x x refl))) (all_from test xs (λ n g. h n (or_right (x == n) (has xs n) g)))

any_in : (test : ℕ → Bool) (xs : List ℕ) → list_any test xs ≡ true → (n : ℕ) × (has xs n ≡ true) × (test n ≡ true)
any_in test [] h = absurd (false≢true h)
any_in test (x ∷ xs) h =
    ⊎_elim (λ e. (x, or_left (x == x) (has xs x) (eq-eqb x x refl), e)) (λ g. let w = any_in test xs g in (w.0, or_right (x == w.0) (has xs w.0) w.1, w.2)) (or_cases (test x) (list_any test xs) h)

any_from : (test : ℕ → Bool) (xs : List ℕ) (n : ℕ) → has xs n ≡ true → test n ≡ true → list_any test xs ≡ true
any_from test [] n h t = absurd (false≢true h)
any_from test (x ∷ xs) n h t =
    ⊎_elim (λ e. or_left (test x) (list_any test xs) (ap test (eqb-true x n e) ∙ t)) (λ g. or_right (test x) (list_any test xs) (any_from test xs n g t)) (or_cases (x == n) (has xs n) h)

-- ---- zones and tags are counted

max_grows : (xs : List ℕ) (k : ℕ) → k ≤ fold max k xs
max_grows [] k = omega arith
max_grows (x ∷ xs) k = let a = le-max_left k x in let b = max_grows xs (max k x) in omega (arith, a, b)

below_max : (xs : List ℕ) (k n : ℕ) → n < length xs → slice_index xs n < fold max k (map suc xs)
below_max [] k n h = absurd (omega arith)
below_max (x ∷ xs) k zero h = let a = le-max_right k (suc x) in let b = max_grows (map suc xs) (max k (suc x)) in omega (arith, a, b)
below_max (x ∷ xs) k (suc n) h = below_max xs (max k (suc x)) n (omega arith)

max_below : (xs : List ℕ) (k c : ℕ) → k ≤ c → ((n : ℕ) → n < length xs → slice_index xs n < c) → fold max k (map suc xs) ≤ c
max_below [] k c low h = low
max_below (x ∷ xs) k c low h = let a = h 0 (omega arith) in max_below xs (max k (suc x)) c (omega (arith, low, a)) (λ n g. h (suc n) (omega (arith, g)))

pub zones_counted : (s : Site) (count : ℕ) → AreNumbers s.zones count → zone_count s ≡ count
zones_counted s count numbers =
    let high = max_below s.zones 0 count (omega arith) numbers.below in
    ⊎_elim
    (λ less. let w = numbers.used (count - 1) (omega (arith, less)) in
    let b = below_max s.zones 0 w.0 w.1 in absurd (omega (arith, less, b, w.2)))
    (λ none. omega (arith, high, none)) (cases_lt (zone_count s) count)

pub tag_below : (s : Site) → IsNumbered s.policy → (i tag : ℕ) → i < length s.policy.ifaces → binds s.policy i tag ≡ true → tag < length s.policy.tags
tag_below s numbered i tag h bound =
    ltb-true tag (length s.policy.tags) (all_in (λ n. nat_lt n (length s.policy.tags)) (iface_of s.policy i).binds tag (numbered.binds i h) bound)

-- ---- views

mapped : {A : Type 0} (f : ℕ → A) (a n k : ℕ) (d : A) → k < n → slice_index_or (map f (range_with_len a n)) k d ≡ f (a + k)
mapped f a zero k d h = absurd (omega arith)
mapped f a (suc n) zero d h = let e : a ≡ a + 0 = omega arith in ap f e
mapped f a (suc n) (suc k) d h = let e : (a + 1) + k ≡ a + suc k = omega arith in mapped f (a + 1) n k d (omega arith) ∙ ap f e

mapped_long : {A : Type 0} (f : ℕ → A) (a n : ℕ) → length (map f (range_with_len a n)) ≡ n
mapped_long f a zero = refl
mapped_long f a (suc n) = ap suc (mapped_long f (a + 1) n)

same_items : {A : Type 0} (d : A) (xs ys : List A) → length xs ≡ length ys → ((k : ℕ) → k < length xs → slice_index_or xs k d ≡ slice_index_or ys k d) → xs ≡ ys
same_items d [] [] e h = refl
same_items d [] (y ∷ ys) e h = absurd (omega arith)
same_items d (x ∷ xs) [] e h = absurd (omega arith)
same_items d (x ∷ xs) (y ∷ ys) e h =
    ap (λ k. k ∷ xs) (h zero (omega arith)) ∙ ap (λ zs. y ∷ zs) (same_items d xs ys (omega arith) (λ k below. h (suc k) (omega arith)))

module _ (s : Site) (v : Views) (numbered : IsNumbered s.policy) (count : ℕ) (zones_long : length s.zones ≡ length s.policy.nets) (numbers : AreNumbers s.zones count) where
  its_zone : (i : ℕ) → i < length s.policy.ifaces → zone_at s i < count
  its_zone i h = numbers.below (net_at s.policy i) (let w = (numbered.placed i h).0 in omega (arith, w, zones_long))

  module _ (zones : AreListed (IsActiveIn s) v.zones (length s.policy.tags)) (each : length v.zones ≡ count) where
    sees : (z : ℕ) → z < count → (tag : ℕ) → (has (zone_view v z) tag ≡ true) ↔ IsActive s tag z
    sees z h tag =
        let there : z < length v.zones = omega (arith, h, each) in (
          λ g. (listed_holds (IsActiveIn s) v.zones (length s.policy.tags) zones z there tag g).1,
          λ a. holds_listed (IsActiveIn s) v.zones (length s.policy.tags) zones z there tag (tag_below s numbered a.iface tag a.there a.bound) a,
        )

    inner_test : ℕ → ℕ → Bool
    inner_test r tag = list_all (λ i. not (binds s.policy i tag)) (ifaces_of s.policy r) && list_any (λ i. has (zone_view v (zone_at s i)) tag) (ifaces_of s.policy r)

    in_router : (r i : ℕ) → has (ifaces_of s.policy r) i ≡ true → (i < length s.policy.ifaces) × (router_at s.policy i ≡ r)
    in_router r i h =
        let w = has_kept (λ j. router_at s.policy j == r) 0 (length s.policy.ifaces) i h in (omega (arith, w.1), eqb-true (router_at s.policy i) r w.2)

    router_has : (r i : ℕ) → i < length s.policy.ifaces → router_at s.policy i ≡ r → has (ifaces_of s.policy r) i ≡ true
    router_has r i h e = kept_has (λ j. router_at s.policy j == r) 0 (length s.policy.ifaces) i (omega arith) (omega (arith, h)) (eq-eqb (router_at s.policy i) r e)

    so_not : (b : Bool) → not b ≡ true → b ≡ false
    so_not false e = refl
    so_not true e = sym e

    not_so : (b : Bool) → b ≡ false → not b ≡ true
    not_so false e = refl
    not_so true e = sym e

    inner_decided : (r tag : ℕ) → (inner_test r tag ≡ true) ↔ IsInnerTag s r tag
    unfolding inner_test
    inner_decided r tag = (
      λ h. let a = and_parts (list_all (λ i. not (binds s.policy i tag)) (ifaces_of s.policy r)) (list_any (λ i. has (zone_view v (zone_at s i)) tag) (ifaces_of s.policy r)) h in
          let w = any_in (λ i. has (zone_view v (zone_at s i)) tag) (ifaces_of s.policy r) a.1 in
          let b = in_router r w.0 w.1 in
          record {
            iface = w.0;
            there = b.0;
            its = b.1;
            active = (sees (zone_at s w.0) (its_zone w.0 b.0) tag).0 w.2;
            unbound = λ j hj e. so_not (binds s.policy j tag) (all_in (λ i. not (binds s.policy i tag)) (ifaces_of s.policy r) j a.0 (router_has r j hj e));
          },
      λ w. and_from (list_all (λ i. not (binds s.policy i tag)) (ifaces_of s.policy r)) (list_any (λ i. has (zone_view v (zone_at s i)) tag) (ifaces_of s.policy r))
          (all_from (λ i. not (binds s.policy i tag)) (ifaces_of s.policy r) (λ n g. let b = in_router r n g in not_so (binds s.policy n tag) (w.unbound n b.0 b.1)))
          (any_from (λ i. has (zone_view v (zone_at s i)) tag) (ifaces_of s.policy r) w.iface (router_has r w.iface w.there w.its)
          ((sees (zone_at s w.iface) (its_zone w.iface w.there) tag).1 w.active)),
    )

    pub listed_views : AreListed (IsInnerTag s) v.routers (length s.policy.tags) → length v.routers ≡ length s.policy.routers → AreViews s v
    unfolding inner_test
    listed_views inner routers =
        let counted = zones_counted s count numbers in
        let inside = λ (z : ℕ) (h : z < zone_count s). let w : z < count = omega (arith, h, counted) in w in
        record {
          each = omega (arith, each, counted);
          ascending = λ z h. listed_ascending (IsActiveIn s) v.zones (length s.policy.tags) zones z (let w = inside z h in omega (arith, w, each));
          active = λ z tag h. sees z (inside z h) tag;
          inner = same_items [] v.routers (map (inner_tags s v) (all_routers s.policy)) (omega (arith, routers, mapped_long (inner_tags s v) 0 (length s.policy.routers)))
              (λ r h. let here : r < length s.policy.routers = omega (arith, h, routers) in
              let e : 0 + r ≡ r = omega arith in
              listed_by (IsInnerTag s) v.routers (length s.policy.tags) inner r h (inner_test r) (λ tag less. inner_decided r tag)
              ∙ sym (mapped (inner_tags s v) 0 (length s.policy.routers) r [] here ∙ ap (inner_tags s v) e));
        }
