-- What lists and tables rest on, of a well formed policy that has no fault.
use Rattle.std.proofs.Common.{◌≡◌, ℕ, zero, suc, ◌<◌, ◌≤◌, ◌⊎◌, inl, inr, Bool, true, false, not, ◌&&◌, List, [], ◌∷◌, length, map, refl, sym, ap, subst, ◌∙◌, ⊎_elim, arith}
use Rattle.std.specs.Prelude.{◌==◌, nat_lt, max, Option, Some, None, slice_index, filter, fold}
use Rattle.std.specs.List.{list_any}
use Rattle.std.proofs.lemmas.Bool.{and_parts, and_from, or_left, or_right, eq-eqb, lt-ltb, false≢true, not-true, not_from_false, cases_order, false_from_ne_true}
use Rattle.policy_model.specs.Lists.{once_each}
use Rattle.policy_model.specs.Policy.{Policy, Router, net_at}
use Rattle.policy_model.proofs.Shorthand.{policy_of}
use Rattle.policy_model.specs.Zones.{IsSite, zone_at, zone_count}
use Rattle.policy_model.specs.Tags.{router_view, zone_view}
use Rattle.policy_model.specs.Routes.{NextHop, Hop, same_number, same_next_hop, same_hop, hop_of, hops_of, table_hops, is_static}
use Rattle.policy_model.specs.Faults.{is_same_prefix, is_translated_inside, has_bare_hop, has_two_hops, lacks_address}
use Rattle.policy_model.specs.FirstFault.{SamePrefix, NatInside, NoHopAddress, AmbiguousHop, AtZone, AtRouter, IsAccepted, is_bare_next, has_hop, is_lower, hop_order}
use Rattle.policy_model.specs.Passing.{Config}
use Rattle.policy_model.specs.Headline.{Meaning, IsMeaning, permits_in, IsExact}
use Rattle.policy_model.proofs.AllWalks.{IsIn, from_map}
use Rattle.list_laws.proofs.Inherited.{same_hop_true}
use Rattle.list_laws.proofs.Members.{some_in, some_of, from_filter}
use Rattle.policy_laws.specs.Secured.{AreSecured, HaveLists}
use Rattle.policy_laws.specs.Shaped.{IsShaped, HasDistinctPrefixes}
use Rattle.policy_laws.specs.Routed.{AreRouted, IsWired, HaveTables}
use Rattle.policy_laws.proofs.NextHops.{same_next_hop_true}
use Rattle.policy_laws.proofs.Placed.{seen_as}
use Rattle.policy_laws.proofs.Shapes.{secured}
use Rattle.policy_laws.proofs.Whole.{exact_configs}

-- ---- zones

above_start : (xs : List ℕ) (a : ℕ) → a ≤ fold max a xs
above_start [] a = omega arith
above_start (x ∷ xs) a = let h = above_start xs (max a x) in omega (arith, h)

below_count : (zones : List ℕ) (n a : ℕ) → n < length zones → slice_index zones n < fold max a (map suc zones)
below_count [] n a h = absurd (omega arith)
below_count (z ∷ zones) zero a h = let g = above_start (map suc zones) (max a (suc z)) in omega (arith, g)
below_count (z ∷ zones) (suc n) a h = below_count zones n (max a (suc z)) (omega arith)

-- ---- routers

-- a policy of nothing but routers
abbrev only : List Router → Policy
only routers = policy_of [] [] routers [] [] [] []

static_below : (routers : List Router) (r : ℕ) → is_static (only routers) r ≡ true → r < length routers
static_below [] r h = absurd (false≢true h)
static_below (x ∷ routers) zero h = omega arith
static_below (x ∷ routers) (suc r) h = let g = static_below routers r h in omega (arith, g)

-- ---- two hops

same_next_refl : (h : NextHop) → same_next_hop h h ≡ true
same_next_refl h = and_from (h.out == h.out) (same_number h.next h.next) (eq-eqb h.out h.out refl) (go h.next)
  where
    go : (o : Option ℕ) → same_number o o ≡ true
    go None = refl
    go (Some k) = eq-eqb k k refl

-- two hops that a table tells apart
record AreTwo (hops : List Hop) : Type 0 where
  h : Hop
  k : Hop
  h_in : IsIn h hops
  k_in : IsIn k hops
  apart : same_hop h k ≡ false

from_once : (x : Hop) (xs : List Hop) → IsIn x (once_each same_hop xs) → IsIn x xs
from_once x [] h = h
from_once x (y ∷ ys) (inl e) = inl e
from_once x (y ∷ ys) (inr h) = inr (from_once x ys (from_filter (λ z. not (same_hop y z)) x (once_each same_hop ys) h).0)

two_of : (xs : List Hop) → nat_lt 1 (length (once_each same_hop xs)) ≡ true → AreTwo xs
two_of [] more = absurd (false≢true more)
two_of (x ∷ xs) more = go (filter other (once_each same_hop xs)) refl
  where
    other : Hop → Bool
    other y = not (same_hop x y)

    go : (rest : List Hop) → filter other (once_each same_hop xs) ≡ rest → AreTwo (x ∷ xs)
    go [] is = absurd (false≢true (sym (ap (λ ys. nat_lt 1 (suc (length ys))) is) ∙ more))
    go (y ∷ rest) is =
        let there : IsIn y (filter other (once_each same_hop xs)) = subst (IsIn y) (sym is) (inl refl) in
        let w = from_filter other y (once_each same_hop xs) there in
        record { h = x; k = y; h_in = inl refl; k_in = inr (from_once y xs w.0); apart = not-true (same_hop x y) w.1 }

pub same_hop_refl : (h : Hop) → same_hop h h ≡ true
same_hop_refl h = and_from (h.out == h.out) (same_number h.gateway h.gateway) (eq-eqb h.out h.out refl) (go h.gateway)
  where
    go : (o : Option ℕ) → same_number o o ≡ true
    go None = refl
    go (Some k) = eq-eqb k k refl

same_hop_turned : (h k : Hop) → same_hop h k ≡ false → same_hop k h ≡ false
same_hop_turned h k e = false_from_ne_true (same_hop k h) (λ t. false≢true (sym e ∙ subst (λ (x : Hop). same_hop h x ≡ true) (sym (same_hop_true k h t)) (same_hop_refl h)))

-- next hops that a table tells apart are two
apart_by : (p : Policy) (h k : NextHop) → same_hop (hop_of p h) (hop_of p k) ≡ false → same_next_hop h k ≡ false
apart_by p h k e =
    false_from_ne_true (same_next_hop h k)
    (λ t. false≢true (sym e ∙ subst (λ (x : NextHop). same_hop (hop_of p h) (hop_of p x) ≡ true) (same_next_hop_true h k t) (same_hop_refl (hop_of p h))))

abbrev one_way : NextHop → NextHop → Bool
one_way h k = is_lower (hop_order h) (hop_order k)

by_out : (h k : NextHop) → h.out < k.out → one_way h k ≡ true
by_out h k less = or_left (nat_lt h.out k.out) _ (lt-ltb h.out k.out less)

by_next : (out : ℕ) (o p : Option ℕ) → same_number o p ≡ false →
    let h : NextHop = record { out = out; next = o } in let k : NextHop = record { out = out; next = p } in (one_way h k ≡ true) ⊎ (one_way k h ≡ true)
by_next out None None apart = absurd (false≢true (sym apart))
by_next out None (Some k) apart = inl (or_right (nat_lt out out) _ (and_from (out == out) _ (eq-eqb out out refl) (or_left (nat_lt 0 (suc k)) _ (lt-ltb 0 (suc k) (omega arith)))))
by_next out (Some i) None apart = inr (or_right (nat_lt out out) _ (and_from (out == out) _ (eq-eqb out out refl) (or_left (nat_lt 0 (suc i)) _ (lt-ltb 0 (suc i) (omega arith)))))
by_next out (Some i) (Some k) apart =
    ⊎_elim (λ e. absurd (false≢true (sym apart ∙ eq-eqb i k e)))
    (λ o. ⊎_elim
    (λ less. inl (or_right (nat_lt out out) _ (and_from (out == out) _ (eq-eqb out out refl) (or_left (nat_lt (suc i) (suc k)) _ (lt-ltb (suc i) (suc k) (omega arith))))))
    (λ more. inr (or_right (nat_lt out out) _ (and_from (out == out) _ (eq-eqb out out refl) (or_left (nat_lt (suc k) (suc i)) _ (lt-ltb (suc k) (suc i) (omega arith))))))
    o)
    (cases_order i k)

-- of two different hops one comes first
in_order : (h k : NextHop) → same_next_hop h k ≡ false → (one_way h k ≡ true) ⊎ (one_way k h ≡ true)
in_order h k apart =
    ⊎_elim
    (λ e. let moved : same_number h.next k.next ≡ false = second (h.out == k.out) (same_number h.next k.next) (eq-eqb h.out k.out e) apart in
    subst (λ (o : ℕ). let j : NextHop = record { out = o; next = k.next } in (one_way h j ≡ true) ⊎ (one_way j h ≡ true)) e (by_next h.out h.next k.next moved))
    (λ o. ⊎_elim (λ less. inl (by_out h k less)) (λ more. inr (by_out k h more)) o)
    (cases_order h.out k.out)
  where
    second : (a b : Bool) → a ≡ true → (a && b) ≡ false → b ≡ false
    second true b e h = h
    second false b e h = absurd (false≢true e)

-- ---- what no fault says

module _ (m : Meaning) (site : IsSite m.site) (shape : IsShaped m.site.policy) (wired : IsWired m.site.policy) (none : IsAccepted m) where
  abbrev p : Policy
  p = m.site.policy

  none_inside : (n tag : ℕ) → n < length p.nets → is_translated_inside m.site m.views n tag ≡ false
  none_inside n tag below = false_from_ne_true (is_translated_inside m.site m.views n tag) (λ t. none (NatInside n tag) (below, t))

  distinct : HasDistinctPrefixes m.site m.views
  distinct = record {
    apart = λ i n o below there. false_from_ne_true (is_same_prefix p (zone_view m.views (zone_at m.site i)) n o)
        (λ t. let placed : net_at p i < length m.site.zones = let w = wired.placed i below in omega (arith, w.0, site.each) in
        none (SamePrefix n o (AtZone (zone_at m.site i))) (there, lt-ltb (zone_at m.site i) (zone_count m.site) (below_count m.site.zones (net_at p i) 0 placed), t));
    inside = none_inside;
  }

  pub lists_secured : AreSecured m.site m.views (permits_in m)
  lists_secured = secured m.site m.areas shape m.views distinct

  apart_there : (r : ℕ) → is_static p r ≡ true → (n o : ℕ) → o < length p.nets → is_same_prefix p (router_view m.views r) n o ≡ false
  apart_there r fixed n o there =
      false_from_ne_true (is_same_prefix p (router_view m.views r) n o)
      (λ t. none (SamePrefix n o (AtRouter r)) (there, lt-ltb r (length p.routers) (static_below p.routers r fixed), t))

  bare : (r n : ℕ) → n < length p.nets → is_static p r ≡ true → (h : NextHop) → IsIn h (hops_of m.site (permits_in m) r n) → lacks_address p h ≡ true → ⊥
  bare r n below fixed h there lacks = go h.next refl
    where
      go : (o : Option ℕ) → h.next ≡ o → ⊥
      go None is = false≢true (ap (λ (o : Option ℕ). lacks_address p (record { out = h.out; next = o })) (sym is) ∙ lacks)
      go (Some i) is =
          let hops = hops_of m.site (permits_in m) r n in
          let here : is_bare_next p i h ≡ true =
          and_from (same_number h.next (Some i)) (lacks_address p h) (ap (λ o. same_number o (Some i)) is ∙ eq-eqb i i refl) lacks in
          none (NoHopAddress r n i) (below, and_from (is_static p r) (list_any (is_bare_next p i) hops) fixed (some_of (is_bare_next p i) h hops there here))

  addressed : (r n : ℕ) → n < length p.nets → has_bare_hop m.site (permits_in m) r n ≡ false
  addressed r n below =
      let hops = hops_of m.site (permits_in m) r n in
      false_from_ne_true (has_bare_hop m.site (permits_in m) r n)
      (λ t. let a = and_parts (is_static p r) (list_any (lacks_address p) hops) t in
      let w = some_in (lacks_address p) hops a.1 in
      bare r n below a.0 w.0 w.1 w.2)

  ambiguous : (r n : ℕ) → n < length p.nets → is_static p r ≡ true → (h k : NextHop) → IsIn h (hops_of m.site (permits_in m) r n) → IsIn k (hops_of m.site (permits_in m) r n) →
      same_hop (hop_of p h) (hop_of p k) ≡ false → one_way h k ≡ true → ⊥
  ambiguous r n below fixed h k h_in k_in other lower =
      let hops = hops_of m.site (permits_in m) r n in
      let a = some_of (same_next_hop h) h hops h_in (same_next_refl h) in
      let b = some_of (same_next_hop k) k hops k_in (same_next_refl k) in
      none (AmbiguousHop r n h k) (
        below,
        and_from (is_static p r && has_hop hops h && has_hop hops k && not (same_hop (hop_of p h) (hop_of p k))) (one_way h k)
            (and_from (is_static p r && has_hop hops h && has_hop hops k) (not (same_hop (hop_of p h) (hop_of p k)))
            (and_from (is_static p r && has_hop hops h) (has_hop hops k) (and_from (is_static p r) (has_hop hops h) fixed a) b) (not_from_false (same_hop (hop_of p h) (hop_of p k)) other)) lower,
      )

  one_hop : (r n : ℕ) → n < length p.nets → has_two_hops m.site (permits_in m) r n ≡ false
  one_hop r n below =
      let hops = hops_of m.site (permits_in m) r n in
      false_from_ne_true (has_two_hops m.site (permits_in m) r n)
      (λ t. let a = and_parts (is_static p r) (nat_lt 1 (length (table_hops m.site (permits_in m) r n))) t in
      let w = two_of (map (hop_of p) hops) a.1 in
      let x = from_map (hop_of p) w.h hops w.h_in in
      let y = from_map (hop_of p) w.k hops w.k_in in
      let h : NextHop = x.0 in
      let k : NextHop = y.0 in
      let other : same_hop (hop_of p h) (hop_of p k) ≡ false =
      subst (λ (g : Hop). same_hop (hop_of p h) g ≡ false) y.2 (subst (λ (g : Hop). same_hop g w.k ≡ false) x.2 w.apart) in
      ⊎_elim (λ lower. ambiguous r n below a.0 h k x.1 y.1 other lower) (λ lower. ambiguous r n below a.0 k h y.1 x.1 (same_hop_turned (hop_of p h) (hop_of p k) other) lower)
      (in_order h k (apart_by p h k other)))

  pub routes_clear : AreRouted m.site m.views (permits_in m)
  routes_clear = record {
    one_hop = λ r fixed. record {
      own = λ n below. (shape.nets n below).own.cidr;
      seen = λ n below q is. (seen_as p (router_view m.views r) n q (shape.nets n below) is).prefix.cidr;
      apart = λ n o below there. apart_there r fixed n o there;
      one_hop = λ n below. one_hop r n below;
    };
    addressed = addressed;
    inside = none_inside;
    placed = wired.placed;
    once = wired.once;
    own = wired.own;
  }

pub secures : (m : Meaning) → IsSite m.site → IsShaped m.site.policy → IsWired m.site.policy → IsAccepted m →
    AreSecured m.site m.views (permits_in m) × AreRouted m.site m.views (permits_in m)
secures m site shape wired none = (lists_secured m site shape wired none, routes_clear m site shape wired none)

pub accepted_exact : (p : Policy) (m : Meaning) (configs : List Config) → IsMeaning p m → IsShaped p → IsWired p → IsAccepted m → HaveLists m.site m.views (permits_in m) configs →
    HaveTables m.site m.views (permits_in m) configs → IsExact p configs
accepted_exact p m configs its shape wired none lists tables =
    let there = secures m its.zones (subst IsShaped (sym its.policy) shape) (subst IsWired (sym its.policy) wired) none in
    exact_configs p m configs its there.0 lists there.1 tables
