-- Each row of faults: its things as they are listed, and the test.
use Rattle.std.proofs.Common.{◌≡◌, ℕ, ◌+◌, ◌<◌, inl, inr, Bool, true, false, not, cond, ◌&&◌, ◌||◌, List, [], ◌∷◌, ◌++◌, length, map, Option, Some, None, refl, sym, ap, subst, ◌∙◌, ⊎_elim, arith}
use Rattle.std.specs.Prelude.{◌==◌, nat_lt, find, option_map, unwrap_or, is_some, is_none}
use Rattle.std.specs.List.{list_any, list_all}
use Rattle.std.specs.Option.{option_or}
use Rattle.std.proofs.lemmas.Bool.{and_parts, and_from, or_cases, eqb-true, eq-eqb, ne_eqb, ltb-true, lt-ltb, not-true, both_ways, cond-true, cond-false, false≢true, cases_lt}
use Rattle.std.proofs.lemmas.List.{get_or_past}
use Rattle.spoc_base.specs.Address.{Cidr}
use Rattle.policy_model.specs.Lists.{has, numbers_below, pairs_of}
use Rattle.policy_model.specs.Policy.{Policy, Net, no_net, net_of, area_of, iface_of, router_at, all_nets, all_routers, all_ifaces, all_tags}
use Rattle.policy_model.specs.Zones.{IsSite, zone_of, zone_at, zone_count}
use Rattle.policy_model.specs.Tags.{IsBarred, binds, keeps_tag, zone_view}
use Rattle.policy_model.specs.Places.{prefix_in}
use Rattle.policy_model.specs.Objects.{area_zones}
use Rattle.policy_model.specs.Permits.{Permit, permit_count}
use Rattle.policy_model.specs.Blocks.{permit_at}
use Rattle.policy_model.specs.Faults.{is_split, has_tag, is_translated_twice, is_translated_inside, view_count, are_one_prefix, is_same_prefix, has_managed_end, has_no_path, is_hidden_end}
use Rattle.policy_model.specs.FirstFault.{FaultCase, AreaSplit, NatConflict, NatTwice, NatInside, LimitViews, SamePrefix, ManagedEnd, LimitPermits, NoPath, HiddenEnd, LimitLines, LimitRoutes, ViewPlace, AtZone, AtRouter, view_at, is_there, place_order, is_lower, HasFault, most_views, most_items, line_count, route_count}
use Rattle.policy_model.specs.Headline.{Meaning, permits_in}
use Rattle.policy_model.proofs.AllWalks.{IsIn, in_front, in_back, in_map, in_pairs, in_numbers, from_map}
use Rattle.list_laws.proofs.Members.{in_either, some_in, each_in, some_of}
use Rattle.meaning_laws.specs.Tables.{reaches, is_in_force}
use Rattle.meaning_laws.proofs.Reached.{reached, leads_there}
use Rattle.meaning_laws.proofs.RowsThere.{keeps_through, active_if, if_active}
use Rattle.topology.specs.First.{HasNone, row_of}
use Rattle.topology.specs.Sound.{IsSound, are_below}
use Rattle.fault_laws.specs.Cases.{IsFirstCase, all_zones, all_areas, all_services, all_places, split_case, twice_case, inside_case, views_case, same_case, service_of, managed_case, permits_case, lacks_path, path_case, lines_case, routes_case, is_other_side, is_barred, is_conflicting, conflict_case, end_net, is_end_hidden, hidden_fault, hidden_case}
use Rattle.fault_laws.proofs.Orders.{InOrder, PairBefore, from_numbers, from_pairs, order_numbers, order_append, order_map, order_pairs}
use Rattle.fault_laws.proofs.Shapes.{lower_here, lower_later, value, place_of, at_split, at_conflict, at_twice, at_inside, at_views, at_same, at_managed, at_permits, at_path, hidden_src, hidden_dst, hidden_net, at_hidden, at_lines, at_routes}
use Rattle.fault_laws.proofs.Joins.{joined, of_none, or_none}
use Rattle.fault_laws.proofs.Finding.{AreListed, listed_first, limit_first}
use Rattle.fault_laws.proofs.There.{managed_end_there, permit_there, service_is_sound}

-- ---- words

from_has : (xs : List ℕ) (n : ℕ) → has xs n ≡ true → IsIn n xs
from_has xs n h = let w = some_in (λ x. x == n) xs h in subst (λ (k : ℕ). IsIn k xs) (eqb-true w.0 n w.2) w.1

-- a number of a list that lies below
below_all : (count : ℕ) (xs : List ℕ) (n : ℕ) → are_below count xs ≡ true → IsIn n xs → n < count
below_all count xs n h i = ltb-true n count (each_in (λ k. nat_lt k count) xs h n i)

-- by two numbers
abbrev TwoBefore : ℕ × ℕ → ℕ × ℕ → Type 0
TwoBefore = PairBefore (λ (a b : ℕ). a < b) (λ (a b : ℕ). a < b)

order_two : (n k : ℕ) → InOrder TwoBefore (pairs_of (numbers_below n) (numbers_below k))
order_two n k = order_pairs (λ (a b : ℕ). a < b) (λ (a b : ℕ). a < b) (numbers_below n) (numbers_below k) (order_numbers n) (order_numbers k)

in_two : (n k a b : ℕ) → a < n → b < k → IsIn (a, b) (pairs_of (numbers_below n) (numbers_below k))
in_two n k a b ha hb = in_pairs a b (numbers_below n) (numbers_below k) (in_numbers n a ha) (in_numbers k b hb)

from_two : (n k : ℕ) (e : ℕ × ℕ) → IsIn e (pairs_of (numbers_below n) (numbers_below k)) → (e.0 < n) × (e.1 < k)
from_two n k e h = let w = from_pairs (numbers_below n) (numbers_below k) e h in (from_numbers n e.0 w.0, from_numbers k e.1 w.1)

lower_two : (x y : ℕ × ℕ) (xs ys : List ℕ) → TwoBefore x y → is_lower (x.0 ∷ x.1 ∷ xs) (y.0 ∷ y.1 ∷ ys) ≡ true
lower_two x y xs ys (inl h) = lower_here x.0 y.0 (x.1 ∷ xs) (y.1 ∷ ys) h
lower_two x y xs ys (inr h) = lower_later x.0 y.0 (x.1 ∷ xs) (y.1 ∷ ys) h.0 (lower_here x.1 y.1 xs ys h.1)

module _ (m : Meaning) where
  abbrev p : Policy
  p = m.site.policy

  -- ---- areas

  split_listed : IsSound p → AreListed m 0 (ℕ × ℕ) (λ e. AreaSplit e.0 e.1) (λ e. is_split m.site m.areas e.0 e.1) (pairs_of (all_areas p) (all_ifaces p)) TwoBefore
  split_listed sound = record {
    row = λ e. refl;
    each = λ f r h. ((value 1 f, value 2 f), at_split f r);
    sound = λ e i t. ((from_two (length p.areas) (length p.ifaces) e i).0, t);
    listed = λ e h.
        let border = (and_parts (has (area_of p e.0).borders e.1) (not (has (area_zones m.areas e.0) (zone_at m.site e.1))) h.1).0 in
        (in_two (length p.areas) (length p.ifaces) e.0 e.1 h.0 (below_all (length p.ifaces) (area_of p e.0).borders e.1 (sound.numbered.borders e.0 h.0) (from_has (area_of p e.0).borders e.1 border)), h.1);
    order = order_two (length p.areas) (length p.ifaces);
    lower = λ x y t u b. lower_later 0 0 (x.0 ∷ x.1 ∷ []) (y.0 ∷ y.1 ∷ []) refl (lower_two x y [] [] b);
  }

  pub split_first : IsSound p → IsFirstCase m 0 0 (split_case m)
  split_first sound =
      listed_first m 0 (ℕ × ℕ) (λ e. AreaSplit e.0 e.1) (λ e. is_split m.site m.areas e.0 e.1) (pairs_of (all_areas p) (all_ifaces p)) TwoBefore (split_listed sound)

  -- ---- translation

  abbrev IsOtherSide : ℕ → ℕ → ℕ × ℕ → Bool
  IsOtherSide z tag e = is_other_side p tag e.0 e.1 && reaches p (keeps_tag p tag) (zone_at m.site) (zone_at m.site e.0) z

  barred_if : (z tag : ℕ) → IsBarred m.site tag z → is_barred m.site z tag ≡ true
  barred_if z tag b =
      let same = router_at p b.iface == router_at p b.binder in
      let free = not (binds p b.iface tag) in
      let bound = binds p b.binder tag in
      some_of (IsOtherSide z tag) (b.iface, b.binder) (pairs_of (all_ifaces p) (all_ifaces p)) (in_two (length p.ifaces) (length p.ifaces) b.iface b.binder b.there.0 b.there.1)
      (and_from (same && free && bound) (reaches p (keeps_tag p tag) (zone_at m.site) (zone_at m.site b.iface) z)
      (and_from (same && free) bound (and_from same free (eq-eqb (router_at p b.iface) (router_at p b.binder) b.one_router) b.unbound) b.bound)
      (reached p (keeps_tag p tag) (keeps_through m.site tag) (zone_at m.site) (zone_at m.site b.iface) z b.chain))

  if_barred : (z tag : ℕ) → is_barred m.site z tag ≡ true → IsBarred m.site tag z
  if_barred z tag h =
      let w = some_in (IsOtherSide z tag) (pairs_of (all_ifaces p) (all_ifaces p)) h in
      let i : ℕ = w.0.0 in
      let j : ℕ = w.0.1 in
      let same = router_at p i == router_at p j in
      let free = not (binds p i tag) in
      let bound = binds p j tag in
      let a = and_parts (same && free && bound) (reaches p (keeps_tag p tag) (zone_at m.site) (zone_at m.site i) z) w.2 in
      let b = and_parts (same && free) bound a.0 in
      let c = and_parts same free b.0 in
      record {
        iface = i;
        binder = j;
        there = from_two (length p.ifaces) (length p.ifaces) w.0 w.1;
        one_router = eqb-true (router_at p i) (router_at p j) c.0;
        unbound = c.1;
        bound = b.1;
        chain = leads_there p (keeps_tag p tag) (keeps_through m.site tag) (zone_at m.site) (zone_at m.site i) z a.1;
      }

  conflict_listed : IsSound p → AreListed m 1 (ℕ × ℕ) (λ e. NatConflict e.1 e.0) (λ e. is_conflicting m.site e.0 e.1) (pairs_of (all_zones m.site) (all_tags p)) TwoBefore
  conflict_listed sound = record {
    row = λ e. refl;
    each = λ f r h. ((value 1 f, value 2 f), at_conflict f r);
    sound = λ e i t.
        let w = and_parts (is_in_force m.site e.0 e.1) (is_barred m.site e.0 e.1) t in
        ((from_two (zone_count m.site) (length p.tags) e i).0, (if_active m.site e.0 e.1 w.0, if_barred e.0 e.1 w.1));
    listed = λ e h.
        let active = h.1.0 in
        let below = below_all (length p.tags) (iface_of p active.iface).binds e.1 (sound.numbered.binds active.iface active.there) (from_has (iface_of p active.iface).binds e.1 active.bound) in
        (in_two (zone_count m.site) (length p.tags) e.0 e.1 h.0 below, and_from (is_in_force m.site e.0 e.1) (is_barred m.site e.0 e.1) (active_if m.site e.0 e.1 active) (barred_if e.0 e.1 h.1.1));
    order = order_two (zone_count m.site) (length p.tags);
    lower = λ x y t u b. lower_later 1 1 (x.0 ∷ x.1 ∷ []) (y.0 ∷ y.1 ∷ []) refl (lower_two x y [] [] b);
  }

  pub conflict_first : IsSound p → IsFirstCase m 1 1 (conflict_case m)
  conflict_first sound =
      listed_first m 1 (ℕ × ℕ) (λ e. NatConflict e.1 e.0) (λ e. is_conflicting m.site e.0 e.1) (pairs_of (all_zones m.site) (all_tags p)) TwoBefore (conflict_listed sound)

  -- a network with a tag is there, and so is the tag
  tagged : IsSound p → (n tag : ℕ) → has_tag p n tag ≡ true → (n < length p.nets) × (tag < length p.tags)
  tagged sound n tag h =
      let w = some_in (λ nat. nat.0 == tag) (net_of p n).nats h in
      let there : n < length p.nets =
      ⊎_elim (λ below. below) (λ past. absurd (false≢true (subst (λ (x : Net). list_any (λ nat. nat.0 == tag) x.nats ≡ true) (get_or_past p.nets n no_net past) h))) (cases_lt n (length p.nets)) in
      let below = below_all (length p.tags) (map (λ nat. nat.0) (net_of p n).nats) w.0.0 (sound.numbered.nats n there) (in_map (λ nat. nat.0) w.0 (net_of p n).nats w.1) in
      let e = eqb-true w.0.0 tag w.2 in
      (there, omega (arith, below, e))

  abbrev FourBefore : (ℕ × ℕ) × (ℕ × ℕ) → (ℕ × ℕ) × (ℕ × ℕ) → Type 0
  FourBefore = PairBefore TwoBefore TwoBefore

  lower_four : (x y : (ℕ × ℕ) × (ℕ × ℕ)) → FourBefore x y → is_lower (x.0.0 ∷ x.0.1 ∷ x.1.0 ∷ x.1.1 ∷ []) (y.0.0 ∷ y.0.1 ∷ y.1.0 ∷ y.1.1 ∷ []) ≡ true
  lower_four x y (inl h) = lower_two x.0 y.0 (x.1.0 ∷ x.1.1 ∷ []) (y.1.0 ∷ y.1.1 ∷ []) h
  lower_four x y (inr h) =
      lower_later x.0.0 y.0.0 (x.0.1 ∷ x.1.0 ∷ x.1.1 ∷ []) (y.0.1 ∷ y.1.0 ∷ y.1.1 ∷ []) (ap (λ (e : ℕ × ℕ). e.0) h.0) (lower_later x.0.1 y.0.1 (x.1.0 ∷ x.1.1 ∷ []) (y.1.0 ∷ y.1.1 ∷ []) (ap (λ (e : ℕ × ℕ). e.1) h.0) (lower_two x.1 y.1 [] [] h.1))

  abbrev twice_items : List ((ℕ × ℕ) × (ℕ × ℕ))
  twice_items = pairs_of (pairs_of (all_zones m.site) (all_nets p)) (pairs_of (all_tags p) (all_tags p))

  abbrev TwiceHere : (ℕ × ℕ) × (ℕ × ℕ) → Bool
  TwiceHere e = is_translated_twice m.site m.views e.0.1 e.0.0 e.1.0 e.1.1

  twice_tags : (n z tag other : ℕ) → is_translated_twice m.site m.views n z tag other ≡ true → (has_tag p n tag ≡ true) × (has_tag p n other ≡ true)
  twice_tags n z tag other h =
      let low = nat_lt tag other in
      let one = has_tag p n tag in
      let two = has_tag p n other in
      let here = has (zone_view m.views z) tag in
      let a = and_parts (low && one && two && here) (has (zone_view m.views z) other) h in
      let b = and_parts (low && one && two) here a.0 in
      let c = and_parts (low && one) two b.0 in
      ((and_parts low one c.0).1, c.1)

  twice_listed : IsSound p → AreListed m 2 ((ℕ × ℕ) × (ℕ × ℕ)) (λ e. NatTwice e.0.1 e.0.0 e.1.0 e.1.1) TwiceHere twice_items FourBefore
  twice_listed sound = record {
    row = λ e. refl;
    each = λ f r h. (((value 1 f, value 2 f), (value 3 f, value 4 f)), at_twice f r);
    sound = λ e i t.
        let w = from_pairs (pairs_of (all_zones m.site) (all_nets p)) (pairs_of (all_tags p) (all_tags p)) e i in
        ((from_two (zone_count m.site) (length p.nets) e.0 w.0).0, t);
    listed = λ e h.
        let w = twice_tags e.0.1 e.0.0 e.1.0 e.1.1 h.1 in
        let one = tagged sound e.0.1 e.1.0 w.0 in
        let two = tagged sound e.0.1 e.1.1 w.1 in
        (in_pairs e.0 e.1 (pairs_of (all_zones m.site) (all_nets p)) (pairs_of (all_tags p) (all_tags p)) (in_two (zone_count m.site) (length p.nets) e.0.0 e.0.1 h.0 one.0) (in_two (length p.tags) (length p.tags) e.1.0 e.1.1 one.1 two.1), h.1);
    order = order_pairs TwoBefore TwoBefore (pairs_of (all_zones m.site) (all_nets p)) (pairs_of (all_tags p) (all_tags p)) (order_two (zone_count m.site) (length p.nets)) (order_two (length p.tags) (length p.tags));
    lower = λ x y t u b. lower_later 2 2 (x.0.0 ∷ x.0.1 ∷ x.1.0 ∷ x.1.1 ∷ []) (y.0.0 ∷ y.0.1 ∷ y.1.0 ∷ y.1.1 ∷ []) refl (lower_four x y b);
  }

  pub twice_first : IsSound p → IsFirstCase m 2 2 (twice_case m)
  twice_first sound = listed_first m 2 ((ℕ × ℕ) × (ℕ × ℕ)) (λ e. NatTwice e.0.1 e.0.0 e.1.0 e.1.1) TwiceHere twice_items FourBefore (twice_listed sound)

  inside_listed : IsSound p → AreListed m 3 (ℕ × ℕ) (λ e. NatInside e.0 e.1) (λ e. is_translated_inside m.site m.views e.0 e.1) (pairs_of (all_nets p) (all_tags p)) TwoBefore
  inside_listed sound = record {
    row = λ e. refl;
    each = λ f r h. ((value 1 f, value 2 f), at_inside f r);
    sound = λ e i t. ((from_two (length p.nets) (length p.tags) e i).0, t);
    listed = λ e h.
        let w = tagged sound e.0 e.1 (and_parts (has_tag p e.0 e.1) (has (zone_view m.views (zone_of m.site e.0)) e.1) h.1).0 in
        (in_two (length p.nets) (length p.tags) e.0 e.1 h.0 w.1, h.1);
    order = order_two (length p.nets) (length p.tags);
    lower = λ x y t u b. lower_later 3 3 (x.0 ∷ x.1 ∷ []) (y.0 ∷ y.1 ∷ []) refl (lower_two x y [] [] b);
  }

  pub inside_first : IsSound p → IsFirstCase m 3 3 (inside_case m)
  inside_first sound =
      listed_first m 3 (ℕ × ℕ) (λ e. NatInside e.0 e.1) (λ e. is_translated_inside m.site m.views e.0 e.1) (pairs_of (all_nets p) (all_tags p)) TwoBefore (inside_listed sound)

  pub tags_first : IsSound p → IsFirstCase m 1 3 (option_or (option_or (conflict_case m) (twice_case m)) (inside_case m))
  tags_first sound =
      joined m 1 2 3 (omega arith) (omega arith) (option_or (conflict_case m) (twice_case m)) (inside_case m)
      (joined m 1 1 2 (omega arith) (omega arith) (conflict_case m) (twice_case m) (conflict_first sound) (twice_first sound)) (inside_first sound)

  pub views_first : IsFirstCase m 4 4 (views_case m)
  views_first = limit_first m 4 LimitViews refl (λ g e. at_views g e) most_views (view_count m.views) (λ h. h, λ h. h)

  -- ---- prefixes

  abbrev PlaceBefore : ViewPlace → ViewPlace → Type 0
  PlaceBefore x y = (xs ys : List ℕ) → is_lower (place_order x ++ xs) (place_order y ++ ys) ≡ true

  places_in_order : InOrder PlaceBefore (all_places m.site)
  places_in_order =
      order_append PlaceBefore (map AtZone (all_zones m.site)) (map AtRouter (all_routers p))
      (order_map (λ (a b : ℕ). a < b) PlaceBefore AtZone (λ a b h xs ys. lower_later 0 0 (a ∷ xs) (b ∷ ys) refl (lower_here a b xs ys h)) (all_zones m.site) (order_numbers (zone_count m.site)))
      (order_map (λ (a b : ℕ). a < b) PlaceBefore AtRouter (λ a b h xs ys. lower_later 1 1 (a ∷ xs) (b ∷ ys) refl (lower_here a b xs ys h)) (all_routers p) (order_numbers (length p.routers)))
      (λ x y i j xs ys.
      let v = from_map AtZone x (all_zones m.site) i in
      let w = from_map AtRouter y (all_routers p) j in
      subst (λ (a : ViewPlace). is_lower (place_order a ++ xs) (place_order y ++ ys) ≡ true) (sym v.2)
      (subst (λ (b : ViewPlace). is_lower (0 ∷ v.0 ∷ xs) (place_order b ++ ys) ≡ true) (sym w.2) (lower_here 0 1 (v.0 ∷ xs) (w.0 ∷ ys) (omega arith))))

  in_places : (at : ViewPlace) → is_there m.site at ≡ true → IsIn at (all_places m.site)
  in_places (AtZone z) h = in_front (AtZone z) (map AtZone (all_zones m.site)) (map AtRouter (all_routers p)) (in_map AtZone z (all_zones m.site) (in_numbers (zone_count m.site) z (ltb-true z (zone_count m.site) h)))
  in_places (AtRouter r) h = in_back (AtRouter r) (map AtZone (all_zones m.site)) (map AtRouter (all_routers p)) (in_map AtRouter r (all_routers p) (in_numbers (length p.routers) r (ltb-true r (length p.routers) h)))

  from_places : (at : ViewPlace) → IsIn at (all_places m.site) → is_there m.site at ≡ true
  from_places at i =
      ⊎_elim
      (λ h. let w = from_map AtZone at (all_zones m.site) h in subst (λ (a : ViewPlace). is_there m.site a ≡ true) (sym w.2) (lt-ltb w.0 (zone_count m.site) (from_numbers (zone_count m.site) w.0 w.1)))
      (λ h. let w = from_map AtRouter at (all_routers p) h in subst (λ (a : ViewPlace). is_there m.site a ≡ true) (sym w.2) (lt-ltb w.0 (length p.routers) (from_numbers (length p.routers) w.0 w.1)))
      (in_either at (map AtZone (all_zones m.site)) (map AtRouter (all_routers p)) i)

  abbrev SameBefore : ViewPlace × (ℕ × ℕ) → ViewPlace × (ℕ × ℕ) → Type 0
  SameBefore = PairBefore PlaceBefore TwoBefore

  same_place : (x y : ViewPlace) (xs ys : List ℕ) → x ≡ y → is_lower xs ys ≡ true → is_lower (place_order x ++ xs) (place_order y ++ ys) ≡ true
  same_place x y xs ys e h = subst (λ (z : ViewPlace). is_lower (place_order x ++ xs) (place_order z ++ ys) ≡ true) e (itself x)
    where
      itself : (z : ViewPlace) → is_lower (place_order z ++ xs) (place_order z ++ ys) ≡ true
      itself (AtZone z) = lower_later 0 0 (z ∷ xs) (z ∷ ys) refl (lower_later z z xs ys refl h)
      itself (AtRouter r) = lower_later 1 1 (r ∷ xs) (r ∷ ys) refl (lower_later r r xs ys refl h)

  lower_same : (x y : ViewPlace × (ℕ × ℕ)) → SameBefore x y → is_lower (place_order x.0 ++ x.1.0 ∷ x.1.1 ∷ []) (place_order y.0 ++ y.1.0 ∷ y.1.1 ∷ []) ≡ true
  lower_same x y (inl h) = h (x.1.0 ∷ x.1.1 ∷ []) (y.1.0 ∷ y.1.1 ∷ [])
  lower_same x y (inr h) = same_place x.0 y.0 (x.1.0 ∷ x.1.1 ∷ []) (y.1.0 ∷ y.1.1 ∷ []) h.0 (lower_two x.1 y.1 [] [] h.1)

  abbrev same_items : List (ViewPlace × (ℕ × ℕ))
  same_items = pairs_of (all_places m.site) (pairs_of (all_nets p) (all_nets p))

  abbrev SameHere : ViewPlace × (ℕ × ℕ) → Bool
  SameHere e = is_same_prefix p (view_at m.views e.0) e.1.0 e.1.1

  same_listed : AreListed m 5 (ViewPlace × (ℕ × ℕ)) (λ e. SamePrefix e.1.0 e.1.1 e.0) SameHere same_items SameBefore
  same_listed = record {
    row = λ e. refl;
    each = λ f r h. ((place_of (value 1 f) (value 2 f), (value 3 f, value 4 f)), at_same f r);
    sound = λ e i t.
        let w = from_pairs (all_places m.site) (pairs_of (all_nets p) (all_nets p)) e i in
        ((from_two (length p.nets) (length p.nets) e.1 w.1).1, from_places e.0 w.0, t);
    listed = λ e h.
        let low = ltb-true e.1.0 e.1.1 (and_parts (nat_lt e.1.0 e.1.1) (are_one_prefix (prefix_in p (view_at m.views e.0) e.1.0) (prefix_in p (view_at m.views e.0) e.1.1)) h.2).0 in
        let other = h.0 in
        (in_pairs e.0 e.1 (all_places m.site) (pairs_of (all_nets p) (all_nets p)) (in_places e.0 h.1) (in_two (length p.nets) (length p.nets) e.1.0 e.1.1 (omega (arith, low, other)) h.0), h.2);
    order = order_pairs PlaceBefore TwoBefore (all_places m.site) (pairs_of (all_nets p) (all_nets p)) places_in_order (order_two (length p.nets) (length p.nets));
    lower = λ x y t u b. lower_later 5 5 (place_order x.0 ++ x.1.0 ∷ x.1.1 ∷ []) (place_order y.0 ++ y.1.0 ∷ y.1.1 ∷ []) refl (lower_same x y b);
  }

  pub same_first : IsFirstCase m 5 5 (same_case m)
  same_first = listed_first m 5 (ViewPlace × (ℕ × ℕ)) (λ e. SamePrefix e.1.0 e.1.1 e.0) SameHere same_items SameBefore same_listed

  -- ---- services

  managed_listed : IsSound p →
      AreListed m 7 (ℕ × ℕ) (λ e. ManagedEnd e.0 e.1) (λ e. has_managed_end m.site m.areas (service_of p e.0) e.1) (pairs_of (all_services p) (all_ifaces p)) TwoBefore
  managed_listed sound = record {
    row = λ e. refl;
    each = λ f r h. ((value 1 f, value 2 f), at_managed f r);
    sound = λ e i t. ((from_two (length p.services) (length p.ifaces) e i).0, t);
    listed = λ e h. (
      in_two (length p.services) (length p.ifaces) e.0 e.1 h.0
          (managed_end_there m.site sound (length p.nets + length m.site.zones) (omega arith) (omega arith) m.areas (service_of p e.0) (service_is_sound p sound e.0 h.0) e.1 h.1),
      h.1,
    );
    order = order_two (length p.services) (length p.ifaces);
    lower = λ x y t u b. lower_later 7 7 (x.0 ∷ x.1 ∷ []) (y.0 ∷ y.1 ∷ []) refl (lower_two x y [] [] b);
  }

  pub managed_first : IsSound p → IsFirstCase m 7 7 (managed_case m)
  managed_first sound =
      listed_first m 7 (ℕ × ℕ) (λ e. ManagedEnd e.0 e.1) (λ e. has_managed_end m.site m.areas (service_of p e.0) e.1) (pairs_of (all_services p) (all_ifaces p)) TwoBefore (managed_listed sound)

  pub permits_first : IsFirstCase m 8 8 (permits_case m)
  permits_first = limit_first m 8 LimitPermits refl (λ g e. at_permits g e) most_items (permit_count m.site m.areas) (λ h. h, λ h. h)

  pub services_first : IsSound p → IsFirstCase m 7 8 (option_or (managed_case m) (permits_case m))
  services_first sound = joined m 7 7 8 (omega arith) (omega arith) (managed_case m) (permits_case m) (managed_first sound) permits_first

  -- ---- walks

  lacking_there : IsSound p → IsSite m.site → (u w : ℕ) → lacks_path m u w ≡ true → (u < length p.nets) × (w < length p.nets)
  lacking_there sound site u w h =
      let x = some_in (λ q. (q.src.net == u) && (q.dst.net == w) && has_no_path m.site q) (permits_in m) h in
      let q : Permit = x.0 in
      let a = and_parts ((q.src.net == u) && (q.dst.net == w)) (has_no_path m.site q) x.2 in
      let b = and_parts (q.src.net == u) (q.dst.net == w) a.0 in
      let long = site.each in
      let there = permit_there m.site sound (length p.nets) (omega arith) (omega (arith, long)) m.areas q x.1 in
      let eu = eqb-true q.src.net u b.0 in
      let ew = eqb-true q.dst.net w b.1 in
      (subst (λ (k : ℕ). k < length p.nets) eu there.0, subst (λ (k : ℕ). k < length p.nets) ew there.1)

  path_listed : IsSound p → IsSite m.site → AreListed m 9 (ℕ × ℕ) (λ e. NoPath e.0 e.1) (λ e. lacks_path m e.0 e.1) (pairs_of (all_nets p) (all_nets p)) TwoBefore
  path_listed sound site = record {
    row = λ e. refl;
    each = λ f r h. ((value 1 f, value 2 f), at_path f r);
    sound = λ e i t. t;
    listed = λ e h. let w = lacking_there sound site e.0 e.1 h in (in_two (length p.nets) (length p.nets) e.0 e.1 w.0 w.1, h);
    order = order_two (length p.nets) (length p.nets);
    lower = λ x y t u b. lower_later 9 9 (x.0 ∷ x.1 ∷ []) (y.0 ∷ y.1 ∷ []) refl (lower_two x y [] [] b);
  }

  pub path_first : IsSound p → IsSite m.site → IsFirstCase m 9 9 (path_case m)
  path_first sound site = listed_first m 9 (ℕ × ℕ) (λ e. NoPath e.0 e.1) (λ e. lacks_path m e.0 e.1) (pairs_of (all_nets p) (all_nets p)) TwoBefore (path_listed sound site)

  pub lines_first : IsFirstCase m 11 11 (lines_case m)
  lines_first = limit_first m 11 LimitLines refl (λ g e. at_lines g e) most_items (line_count m.site m.views (permits_in m)) (λ h. h, λ h. h)

  pub routes_first : IsFirstCase m 12 12 (routes_case m)
  routes_first = limit_first m 12 LimitRoutes refl (λ g e. at_routes g e) most_items (route_count m.site (permits_in m)) (λ h. h, λ h. h)

  -- ---- hidden ends

  abbrev SideBefore : Bool → Bool → Type 0
  SideBefore a b = (a ≡ false) × (b ≡ true)

  sides_in_order : InOrder SideBefore (false ∷ true ∷ [])
  sides_in_order = (λ b i. ⊎_elim (λ e. (refl, e)) (λ g. absurd g) i, (λ b i. absurd i, tt))

  in_sides : (b : Bool) → IsIn b (false ∷ true ∷ [])
  in_sides false = inl refl
  in_sides true = inr (inl refl)

  abbrev HiddenItem : Type 0
  HiddenItem = (ℕ × ℕ) × Bool

  abbrev hidden_items : List HiddenItem
  hidden_items = pairs_of (pairs_of (numbers_below (length (permits_in m))) (all_zones m.site)) (false ∷ true ∷ [])

  abbrev its_permit : ℕ → Permit
  its_permit k = permit_at (permits_in m) k

  abbrev hidden_item : HiddenItem → FaultCase
  hidden_item e = hidden_fault (permits_in m) e.0.0 e.1 e.0.1

  abbrev HiddenHere : HiddenItem → Bool
  HiddenHere e = is_end_hidden m e.0.0 e.0.1 e.1

  abbrev HiddenBefore : HiddenItem → HiddenItem → Type 0
  HiddenBefore = PairBefore TwoBefore SideBefore

  -- which end comes first
  abbrev mark : Permit → Bool → ℕ
  mark q is_dst = cond (q.src.net == end_net q is_dst) 0 1

  mark_src : (q : Permit) (b : Bool) → b ≡ false → mark q b ≡ 0
  mark_src q b e = subst (λ (x : Bool). mark q x ≡ 0) (sym e) (cond-true (q.src.net == q.src.net) 0 1 (eq-eqb q.src.net q.src.net refl))

  hidden_parts : (q : Permit) (n z : ℕ) → is_hidden_end m.site m.views q n z ≡ true →
      (not (zone_of m.site q.src.net == zone_of m.site q.dst.net) ≡ true) × (((n == q.src.net) || (n == q.dst.net)) ≡ true) × (is_none (prefix_in p (zone_view m.views z) n) ≡ true)
  hidden_parts q n z h =
      let apart = not (zone_of m.site q.src.net == zone_of m.site q.dst.net) in
      let its = (n == q.src.net) || (n == q.dst.net) in
      let hidden = is_none (prefix_in p (zone_view m.views z) n) in
      let a = and_parts (apart && its && hidden) _ h in
      let b = and_parts (apart && its) hidden a.0 in
      let c = and_parts apart its b.0 in
      (c.0, c.1, b.1)

  mark_dst : (q : Permit) (b : Bool) (z : ℕ) → b ≡ true → is_hidden_end m.site m.views q (end_net q b) z ≡ true → mark q b ≡ 1
  mark_dst q b z e h =
      let apart = (hidden_parts q (end_net q b) z h).0 in
      subst (λ (x : Bool). mark q x ≡ 1) (sym e)
      (cond-false (q.src.net == q.dst.net) 0 1
      (ne_eqb q.src.net q.dst.net (λ same. both_ways (zone_of m.site q.src.net == zone_of m.site q.dst.net) (not-true (zone_of m.site q.src.net == zone_of m.site q.dst.net) apart)
      (eq-eqb (zone_of m.site q.src.net) (zone_of m.site q.dst.net) (ap (zone_of m.site) same)))))

  lower_hidden : (x y : HiddenItem) → HiddenHere x ≡ true → HiddenHere y ≡ true → HiddenBefore x y →
      is_lower (x.0.0 ∷ x.0.1 ∷ mark (its_permit x.0.0) x.1 ∷ []) (y.0.0 ∷ y.0.1 ∷ mark (its_permit y.0.0) y.1 ∷ []) ≡ true
  lower_hidden x y t u (inl h) = lower_two x.0 y.0 (mark (its_permit x.0.0) x.1 ∷ []) (mark (its_permit y.0.0) y.1 ∷ []) h
  lower_hidden x y t u (inr h) =
      let a = mark_src (its_permit x.0.0) x.1 h.1.0 in
      let b = mark_dst (its_permit y.0.0) y.1 y.0.1 h.1.1 u in
      lower_later x.0.0 y.0.0 (x.0.1 ∷ mark (its_permit x.0.0) x.1 ∷ []) (y.0.1 ∷ mark (its_permit y.0.0) y.1 ∷ []) (ap (λ (e : ℕ × ℕ). e.0) h.0)
      (lower_later x.0.1 y.0.1 (mark (its_permit x.0.0) x.1 ∷ []) (mark (its_permit y.0.0) y.1 ∷ []) (ap (λ (e : ℕ × ℕ). e.1) h.0)
      (lower_here (mark (its_permit x.0.0) x.1) (mark (its_permit y.0.0) y.1) [] [] (omega (arith, a, b))))

  its_end : (k n z : ℕ) → is_hidden_end m.site m.views (its_permit k) n z ≡ true → (b : Bool) × (n ≡ end_net (its_permit k) b)
  its_end k n z h =
      let q = its_permit k in
      ⊎_elim (λ e. (false, eqb-true n q.src.net e)) (λ e. (true, eqb-true n q.dst.net e)) (or_cases (n == q.src.net) (n == q.dst.net) (hidden_parts q n z h).1)

  each_hidden : (f : FaultCase) → row_of f ≡ 10 → HasFault m f → (x : HiddenItem) × (f ≡ hidden_item x)
  each_hidden f r h =
      let k = value 1 f in
      let u = hidden_src f in
      let w = hidden_dst f in
      let n = hidden_net f in
      let z = value 2 f in
      let q = its_permit k in
      let e = at_hidden f r in
      let t : HasFault m (HiddenEnd k u w n z) = subst (λ (g : FaultCase). HasFault m g) e h in
      let side = its_end k n z t.2 in (
        ((k, z), side.0),
        e
            ∙ (ap (λ (i : ℕ). HiddenEnd k i w n z) (sym t.3)
            ∙ (ap (λ (i : ℕ). HiddenEnd k q.src.net i n z) (sym t.4) ∙ ap (λ (i : ℕ). HiddenEnd k q.src.net q.dst.net i z) side.1)),
      )

  hidden_listed : AreListed m 10 HiddenItem hidden_item HiddenHere hidden_items HiddenBefore
  hidden_listed = record {
    row = λ e. refl;
    each = each_hidden;
    sound = λ e i t.
        let w = from_pairs (pairs_of (numbers_below (length (permits_in m))) (all_zones m.site)) (false ∷ true ∷ []) e i in
        let v = from_two (length (permits_in m)) (zone_count m.site) e.0 w.0 in
        (v.0, v.1, t, refl, refl);
    listed = λ e h.
        (in_pairs e.0 e.1 (pairs_of (numbers_below (length (permits_in m))) (all_zones m.site)) (false ∷ true ∷ []) (in_two (length (permits_in m)) (zone_count m.site) e.0.0 e.0.1 h.0 h.1) (in_sides e.1), h.2);
    order = order_pairs TwoBefore SideBefore (pairs_of (numbers_below (length (permits_in m))) (all_zones m.site)) (false ∷ true ∷ []) (order_two (length (permits_in m)) (zone_count m.site)) sides_in_order;
    lower = λ x y t u b.
        lower_later 10 10 (x.0.0 ∷ x.0.1 ∷ mark (its_permit x.0.0) x.1 ∷ []) (y.0.0 ∷ y.0.1 ∷ mark (its_permit y.0.0) y.1 ∷ []) refl (lower_hidden x y t u b);
  }

  pub hidden_first : IsFirstCase m 10 10 (hidden_case m)
  hidden_first = listed_first m 10 HiddenItem hidden_item HiddenHere hidden_items HiddenBefore hidden_listed

  pub walks_first : IsSound p → IsSite m.site → IsFirstCase m 9 11 (option_or (option_or (path_case m) (hidden_case m)) (lines_case m))
  walks_first sound site =
      joined m 9 10 11 (omega arith) (omega arith) (option_or (path_case m) (hidden_case m)) (lines_case m)
      (joined m 9 9 10 (omega arith) (omega arith) (path_case m) (hidden_case m) (path_first sound site) hidden_first) lines_first
