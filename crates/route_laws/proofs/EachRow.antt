-- The rows of faults of routes: their things as they are listed, and the tests.
use Rattle.std.proofs.Common.{◌≡◌, ℕ, ◌<◌, ◌⊎◌, inl, inr, Bool, true, false, not, cond, ◌&&◌, List, [], ◌∷◌, ◌++◌, length, map, Option, Some, None, refl, sym, ap, subst, ◌∙◌, ⊎_elim, arith}
use Rattle.std.specs.Prelude.{◌==◌, flat_map, is_some, slice_index}
use Rattle.std.specs.Option.{option_or}
use Rattle.std.specs.List.{list_any}
use Rattle.std.proofs.lemmas.Bool.{and_parts, false≢true, cases_lt}
use Rattle.std.proofs.lemmas.List.{get_or_past}
use Rattle.policy_model.specs.Lists.{pairs_of}
use Rattle.policy_model.specs.Policy.{Policy, Router, no_router, net_at, all_nets, all_routers, all_ifaces}
use Rattle.policy_model.specs.Paths.{Crossing}
use Rattle.policy_model.specs.Zones.{Site, zone_of}
use Rattle.policy_model.specs.Walks.{allowed_walks}
use Rattle.policy_model.specs.Permits.{Permit}
use Rattle.policy_model.specs.Routes.{NextHop, same_number, same_hop, hop_of, first_hops, all_chains, starts_at, hops_through, hops_beyond, next_hops, hops_of, is_static}
use Rattle.policy_model.specs.FirstFault.{FaultCase, AreaSplit, NatConflict, NatTwice, NatInside, LimitViews, SamePrefix, HostShadowed, IfaceShadowed, ManagedEnd, LimitPermits, NoPath, HiddenEnd, LimitLines, LimitRoutes, NoHopAddress, AmbiguousHop, hop_order, is_lower, is_bare_next, has_hop}
use Rattle.policy_model.specs.Faults.{lacks_address}
use Rattle.policy_model.specs.Headline.{Meaning, permits_in}
use Rattle.policy_model.proofs.AllWalks.{IsIn, in_map, in_pairs, in_flat_map, in_numbers, from_map}
use Rattle.list_laws.proofs.Members.{some_in, from_filter}
use Rattle.list_laws.proofs.Inherited.{same_number_true}
use Rattle.list_laws.proofs.Tables.{from_flat_map}
use Rattle.topology.specs.First.{row_of}
use Rattle.fault_laws.specs.Cases.{IsFirstCase, routes_case}
use Rattle.fault_laws.proofs.Orders.{InOrder, PairBefore, from_numbers, from_pairs, order_numbers, order_append, order_map, order_pairs}
use Rattle.fault_laws.proofs.Shapes.{lower_here, lower_later}
use Rattle.fault_laws.proofs.Joins.{joined}
use Rattle.fault_laws.proofs.Finding.{AreListed, listed_first}
use Rattle.fault_laws.proofs.EachRow.{routes_first as limit_first}
use Rattle.route_laws.specs.Cases.{next_hops_by, all_next_hops, is_bare_hop, are_two_hops, bare_case, ambiguous_case}
use Rattle.route_laws.proofs.Walked.{in_middle, crosses, goes_through, is_walk_of}
use Rattle.route_laws.proofs.Marking.{in_has, hop_of_walk}

-- ---- routers that are there

fixed_is_there : (p : Policy) (r : ℕ) → is_static p r ≡ true → r < length p.routers
fixed_is_there p r h =
    ⊎_elim (λ below. below) (λ past. absurd (false≢true (sym (ap (λ (x : Router). is_static (record { nets = []; hosts = []; routers = x ∷ []; ifaces = []; tags = []; restrictions = []; groups = []; areas = []; aggregates = []; services = [] }) 0) (get_or_past p.routers r no_router past)) ∙ h)))
    (cases_lt r (length p.routers))

-- ---- next hops that there may be

abbrev direct : ℕ → NextHop
direct out = record { out = out; next = None }

abbrev onward : ℕ → ℕ → NextHop
onward out k = record { out = out; next = Some k }

-- the leaving interface is there, and the next one is, where there is one
pub record IsHopIn (p : Policy) (h : NextHop) : Type 0 where
  pub out : h.out < length p.ifaces
  pub next : (k : ℕ) → h.next ≡ Some k → k < length p.ifaces

same_item : (j k : ℕ) → Some j ≡ Some k → j ≡ k
same_item j k e = ap (go j) e
  where
    go : ℕ → Option ℕ → ℕ
    go d None = d
    go d (Some n) = n

direct_in : (p : Policy) (out : ℕ) → out < length p.ifaces → IsHopIn p (direct out)
direct_in p out below = record { out = below; next = λ k e. absurd (false≢true (ap is_some e)) }

onward_in : (p : Policy) (out k : ℕ) → out < length p.ifaces → k < length p.ifaces → IsHopIn p (onward out k)
onward_in p out k below there = record { out = below; next = λ j e. subst (λ (n : ℕ). n < length p.ifaces) (same_item k j e) there }

through_in : (p : Policy) (out from to : ℕ) (h : NextHop) → out < length p.ifaces → IsIn h (hops_through out (first_hops p from to)) → IsHopIn p h
through_in p out from to h below i =
    let w = from_map (onward out) h (first_hops p from to) i in
    let f = from_filter (λ i. list_any (starts_at i) (all_chains p from to)) w.0 (all_ifaces p) w.1 in
    subst (IsHopIn p) (sym w.2) (onward_in p out w.0 below (from_numbers (length p.ifaces) w.0 f.0))

by_cond : (P : List NextHop → Type 0) (b : Bool) (xs ys : List NextHop) → P xs → P ys → P (cond b xs ys)
by_cond P true xs ys f g = f
by_cond P false xs ys f g = g

next_in : (p : Policy) (v : ℕ) (c : Crossing) (rest : List Crossing) (h : NextHop) → c.leave < length p.ifaces → ((d : Crossing) → IsIn d rest → d.enter < length p.ifaces) →
    IsIn h (next_hops p v c rest) → IsHopIn p h
next_in p v c rest h below later =
    by_cond (λ hops. IsIn h hops → IsHopIn p h) (net_at p c.leave == v) (direct c.leave ∷ []) (hops_beyond p v c.leave rest)
    (λ i. ⊎_elim (λ e. subst (IsHopIn p) (sym e) (direct_in p c.leave below)) (λ no. absurd no) i) (further rest later)
  where
    further : (more : List Crossing) → ((d : Crossing) → IsIn d more → d.enter < length p.ifaces) → IsIn h (hops_beyond p v c.leave more) → IsHopIn p h
    further [] there i = through_in p c.leave (net_at p c.leave) v h below i
    further (d ∷ more) there i =
        by_cond (λ hops. IsIn h hops → IsHopIn p h) (net_at p d.enter == net_at p c.leave) (hops_through c.leave (d.enter ∷ [])) (hops_through c.leave (first_hops p (net_at p c.leave) (net_at p d.enter)))
        (λ i. ⊎_elim (λ e. subst (IsHopIn p) (sym e) (onward_in p c.leave d.enter below (there d (inl refl)))) (λ no. absurd no) i)
        (λ i. through_in p c.leave (net_at p c.leave) (net_at p d.enter) h below i) i

in_back_of : {A : Type 0} (before : List A) (x y : A) (rest : List A) → IsIn y rest → IsIn y (before ++ x ∷ rest)
in_back_of [] x y rest i = inr i
in_back_of (b ∷ before) x y rest i = inr (in_back_of before x y rest i)

pub hop_in : (s : Site) (permits : List Permit) (r v : ℕ) (h : NextHop) → IsIn h (hops_of s permits r v) → IsHopIn s.policy h
hop_in s permits r v h i =
    let w = hop_of_walk s permits r v h i in
    let c : Crossing = w.on.at in
    let path = w.on.before ++ c ∷ w.on.rest in
    let from = zone_of s w.src in
    let to = zone_of s v in
    let walk = is_walk_of s from to path (subst (λ (path : List Crossing). IsIn path (allowed_walks s from to)) w.on.whole w.walk) in
    next_in s.policy v c w.on.rest h (goes_through s c (crosses s from to path c walk (in_middle w.on.before c w.on.rest))).leave
    (λ d j. (goes_through s d (crosses s from to path d walk (in_back_of w.on.before c d w.on.rest j))).enter) w.on.hop

pub hop_listed : (p : Policy) (h : NextHop) → IsHopIn p h → IsIn h (all_next_hops p)
hop_listed p h i = in_flat_map (next_hops_by p) h.out h (all_ifaces p) (in_numbers (length p.ifaces) h.out i.out) (by_next h.next refl)
  where
    by_next : (o : Option ℕ) → h.next ≡ o → IsIn h (next_hops_by p h.out)
    by_next None e = inl (ap (λ (o : Option ℕ). let x : NextHop = record { out = h.out; next = o } in x) e)
    by_next (Some k) e =
        inr (subst (λ (o : Option ℕ). let x : NextHop = record { out = h.out; next = o } in IsIn x (map (onward h.out) (all_ifaces p))) (sym e)
        (in_map (onward h.out) k (all_ifaces p) (in_numbers (length p.ifaces) k (i.next k e))))

-- ---- their order

abbrev next_place : NextHop → ℕ
next_place h = slice_index (hop_order h) 1

abbrev HopBefore : NextHop → NextHop → Type 0
HopBefore h k = (h.out < k.out) ⊎ ((h.out ≡ k.out) × (next_place h < next_place k))

order_by : (p : Policy) (i : ℕ) → InOrder HopBefore (next_hops_by p i)
order_by p i = (
  λ k j. let w = from_map (onward i) k (all_ifaces p) j in subst (λ (h : NextHop). HopBefore (direct i) h) (sym w.2) (inr (refl, omega arith)),
  order_map (λ (a b : ℕ). a < b) HopBefore (onward i) (λ a b h. inr (refl, omega (arith, h))) (all_ifaces p) (order_numbers (length p.ifaces)),
)

out_of : (p : Policy) (i : ℕ) (h : NextHop) → IsIn h (next_hops_by p i) → h.out ≡ i
out_of p i h (inl e) = ap (λ (k : NextHop). k.out) e
out_of p i h (inr j) = let w = from_map (onward i) h (all_ifaces p) j in ap (λ (k : NextHop). k.out) w.2

order_all : (p : Policy) (is : List ℕ) → InOrder (λ (a b : ℕ). a < b) is → InOrder HopBefore (flat_map (next_hops_by p) is)
order_all p [] h = tt
order_all p (i ∷ is) h =
    order_append HopBefore (next_hops_by p i) (flat_map (next_hops_by p) is) (order_by p i) (order_all p is h.1)
    (λ x y a b. let w = from_flat_map (next_hops_by p) y is b in
    let e = out_of p i x a in
    let f = out_of p w.0 y w.2 in
    let g = h.0 w.0 w.1 in
    inl (omega (arith, e, f, g)))

lower_hop : (h k : NextHop) (xs ys : List ℕ) → HopBefore h k → is_lower (hop_order h ++ xs) (hop_order k ++ ys) ≡ true
lower_hop h k xs ys (inl b) = lower_here h.out k.out (next_place h ∷ xs) (next_place k ∷ ys) b
lower_hop h k xs ys (inr b) = lower_later h.out k.out (next_place h ∷ xs) (next_place k ∷ ys) b.0 (lower_here (next_place h) (next_place k) xs ys b.1)

same_hop_order : (h k : NextHop) (xs ys : List ℕ) → h ≡ k → is_lower xs ys ≡ true → is_lower (hop_order h ++ xs) (hop_order k ++ ys) ≡ true
same_hop_order h k xs ys e low =
    lower_later h.out k.out (next_place h ∷ xs) (next_place k ∷ ys) (ap (λ (x : NextHop). x.out) e)
    (lower_later (next_place h) (next_place k) xs ys (ap (λ (x : NextHop). next_place x) e) low)

module _ (m : Meaning) where
  abbrev p : Policy
  p = m.site.policy

  -- by two numbers
  abbrev TwoBefore : ℕ × ℕ → ℕ × ℕ → Type 0
  TwoBefore = PairBefore (λ (a b : ℕ). a < b) (λ (a b : ℕ). a < b)

  abbrev places : List (ℕ × ℕ)
  places = pairs_of (all_routers p) (all_nets p)

  order_places : InOrder TwoBefore places
  order_places = order_pairs (λ (a b : ℕ). a < b) (λ (a b : ℕ). a < b) (all_routers p) (all_nets p) (order_numbers (length p.routers)) (order_numbers (length p.nets))

  in_places : (r n : ℕ) → r < length p.routers → n < length p.nets → IsIn (r, n) places
  in_places r n a b = in_pairs r n (all_routers p) (all_nets p) (in_numbers (length p.routers) r a) (in_numbers (length p.nets) n b)

  from_places : (e : ℕ × ℕ) → IsIn e places → e.1 < length p.nets
  from_places e i = from_numbers (length p.nets) e.1 (from_pairs (all_routers p) (all_nets p) e i).1

  lower_places : (x y : ℕ × ℕ) (xs ys : List ℕ) → TwoBefore x y → is_lower (x.0 ∷ x.1 ∷ xs) (y.0 ∷ y.1 ∷ ys) ≡ true
  lower_places x y xs ys (inl h) = lower_here x.0 y.0 (x.1 ∷ xs) (y.1 ∷ ys) h
  lower_places x y xs ys (inr h) = lower_later x.0 y.0 (x.1 ∷ xs) (y.1 ∷ ys) h.0 (lower_here x.1 y.1 xs ys h.1)

  same_places : (x y : ℕ × ℕ) (xs ys : List ℕ) → x ≡ y → is_lower xs ys ≡ true → is_lower (x.0 ∷ x.1 ∷ xs) (y.0 ∷ y.1 ∷ ys) ≡ true
  same_places x y xs ys e low =
      lower_later x.0 y.0 (x.1 ∷ xs) (y.1 ∷ ys) (ap (λ (z : ℕ × ℕ). z.0) e) (lower_later x.1 y.1 xs ys (ap (λ (z : ℕ × ℕ). z.1) e) low)

  -- ---- hops without an address

  abbrev BareItem : Type 0
  BareItem = (ℕ × ℕ) × ℕ

  abbrev bare_fault : BareItem → FaultCase
  bare_fault e = NoHopAddress e.0.0 e.0.1 e.1

  abbrev IsBareItem : BareItem → Bool
  IsBareItem e = is_bare_hop m.site (permits_in m) e.0.0 e.0.1 e.1

  abbrev bare_items : List BareItem
  bare_items = pairs_of places (all_ifaces p)

  abbrev BareBefore : BareItem → BareItem → Type 0
  BareBefore = PairBefore TwoBefore (λ (a b : ℕ). a < b)

  each_bare : (f : FaultCase) → row_of f ≡ 13 → (x : BareItem) × (f ≡ bare_fault x)
  each_bare (NoHopAddress r n i) e = (((r, n), i), refl)
  each_bare (AreaSplit a b) e = absurd (omega (arith, e))
  each_bare (NatConflict a b) e = absurd (omega (arith, e))
  each_bare (NatTwice a b c d) e = absurd (omega (arith, e))
  each_bare (NatInside a b) e = absurd (omega (arith, e))
  each_bare LimitViews e = absurd (omega (arith, e))
  each_bare (SamePrefix a b c) e = absurd (omega (arith, e))
  each_bare (HostShadowed a b c) e = absurd (omega (arith, e))
  each_bare (IfaceShadowed a b c d) e = absurd (omega (arith, e))
  each_bare (ManagedEnd a b) e = absurd (omega (arith, e))
  each_bare LimitPermits e = absurd (omega (arith, e))
  each_bare (NoPath a b) e = absurd (omega (arith, e))
  each_bare (HiddenEnd a b c d f) e = absurd (omega (arith, e))
  each_bare LimitLines e = absurd (omega (arith, e))
  each_bare LimitRoutes e = absurd (omega (arith, e))
  each_bare (AmbiguousHop a b c d) e = absurd (omega (arith, e))

  lower_bare : (x y : BareItem) → BareBefore x y → is_lower (x.0.0 ∷ x.0.1 ∷ x.1 ∷ []) (y.0.0 ∷ y.0.1 ∷ y.1 ∷ []) ≡ true
  lower_bare x y (inl h) = lower_places x.0 y.0 (x.1 ∷ []) (y.1 ∷ []) h
  lower_bare x y (inr h) = same_places x.0 y.0 (x.1 ∷ []) (y.1 ∷ []) h.0 (lower_here x.1 y.1 [] [] h.1)

  bare_there : (r n i : ℕ) → is_bare_hop m.site (permits_in m) r n i ≡ true → (r < length p.routers) × (i < length p.ifaces)
  bare_there r n i t =
      let a = and_parts (is_static p r) (list_any (is_bare_next p i) (hops_of m.site (permits_in m) r n)) t in
      let w = some_in (is_bare_next p i) (hops_of m.site (permits_in m) r n) a.1 in
      let h : NextHop = w.0 in
      let b = and_parts (same_number h.next (Some i)) (lacks_address p h) w.2 in
      (fixed_is_there p r a.0, (hop_in m.site (permits_in m) r n h w.1).next i (same_number_true h.next (Some i) b.0))

  bare_listed : AreListed m 13 BareItem bare_fault IsBareItem bare_items BareBefore
  bare_listed = record {
    row = λ e. refl;
    each = λ f r h. each_bare f r;
    sound = λ e i t. (from_places e.0 (from_pairs places (all_ifaces p) e i).0, t);
    listed = λ e h.
        let t = bare_there e.0.0 e.0.1 e.1 h.1 in
        (in_pairs e.0 e.1 places (all_ifaces p) (in_places e.0.0 e.0.1 t.0 h.0) (in_numbers (length p.ifaces) e.1 t.1), h.1);
    order = order_pairs TwoBefore (λ (a b : ℕ). a < b) places (all_ifaces p) order_places (order_numbers (length p.ifaces));
    lower = λ x y t u b. lower_later 13 13 (x.0.0 ∷ x.0.1 ∷ x.1 ∷ []) (y.0.0 ∷ y.0.1 ∷ y.1 ∷ []) refl (lower_bare x y b);
  }

  pub bare_first : IsFirstCase m 13 13 (bare_case m)
  bare_first = listed_first m 13 BareItem bare_fault IsBareItem bare_items BareBefore bare_listed

  -- ---- ambiguous hops

  abbrev TwoItem : Type 0
  TwoItem = (ℕ × ℕ) × (NextHop × NextHop)

  abbrev two_fault : TwoItem → FaultCase
  two_fault e = AmbiguousHop e.0.0 e.0.1 e.1.0 e.1.1

  abbrev AreTwoItem : TwoItem → Bool
  AreTwoItem e = are_two_hops m.site (permits_in m) e.0.0 e.0.1 e.1.0 e.1.1

  abbrev hop_pairs : List (NextHop × NextHop)
  hop_pairs = pairs_of (all_next_hops p) (all_next_hops p)

  abbrev PairOfHopsBefore : NextHop × NextHop → NextHop × NextHop → Type 0
  PairOfHopsBefore = PairBefore HopBefore HopBefore

  abbrev ItemBefore : TwoItem → TwoItem → Type 0
  ItemBefore = PairBefore TwoBefore PairOfHopsBefore

  each_two : (f : FaultCase) → row_of f ≡ 14 → (x : TwoItem) × (f ≡ two_fault x)
  each_two (AmbiguousHop r n h k) e = (((r, n), (h, k)), refl)
  each_two (AreaSplit a b) e = absurd (omega (arith, e))
  each_two (NatConflict a b) e = absurd (omega (arith, e))
  each_two (NatTwice a b c d) e = absurd (omega (arith, e))
  each_two (NatInside a b) e = absurd (omega (arith, e))
  each_two LimitViews e = absurd (omega (arith, e))
  each_two (SamePrefix a b c) e = absurd (omega (arith, e))
  each_two (HostShadowed a b c) e = absurd (omega (arith, e))
  each_two (IfaceShadowed a b c d) e = absurd (omega (arith, e))
  each_two (ManagedEnd a b) e = absurd (omega (arith, e))
  each_two LimitPermits e = absurd (omega (arith, e))
  each_two (NoPath a b) e = absurd (omega (arith, e))
  each_two (HiddenEnd a b c d f) e = absurd (omega (arith, e))
  each_two LimitLines e = absurd (omega (arith, e))
  each_two LimitRoutes e = absurd (omega (arith, e))
  each_two (NoHopAddress a b c) e = absurd (omega (arith, e))

  order_hops : InOrder HopBefore (all_next_hops p)
  order_hops = order_all p (all_ifaces p) (order_numbers (length p.ifaces))

  lower_hops : (x y : NextHop × NextHop) → PairOfHopsBefore x y → is_lower (hop_order x.0 ++ hop_order x.1) (hop_order y.0 ++ hop_order y.1) ≡ true
  lower_hops x y (inl h) = lower_hop x.0 y.0 (hop_order x.1) (hop_order y.1) h
  lower_hops x y (inr h) = same_hop_order x.0 y.0 (hop_order x.1) (hop_order y.1) h.0 (lower_hop x.1 y.1 [] [] h.1)

  lower_two : (x y : TwoItem) → ItemBefore x y →
      is_lower (x.0.0 ∷ x.0.1 ∷ (hop_order x.1.0 ++ hop_order x.1.1)) (y.0.0 ∷ y.0.1 ∷ (hop_order y.1.0 ++ hop_order y.1.1)) ≡ true
  lower_two x y (inl h) = lower_places x.0 y.0 (hop_order x.1.0 ++ hop_order x.1.1) (hop_order y.1.0 ++ hop_order y.1.1) h
  lower_two x y (inr h) = same_places x.0 y.0 (hop_order x.1.0 ++ hop_order x.1.1) (hop_order y.1.0 ++ hop_order y.1.1) h.0 (lower_hops x.1 y.1 h.1)

  -- a static router, and hops that there may be
  two_there : (r n : ℕ) (h k : NextHop) → are_two_hops m.site (permits_in m) r n h k ≡ true → (r < length p.routers) × IsHopIn p h × IsHopIn p k
  two_there r n h k t =
      let hops = hops_of m.site (permits_in m) r n in
      let differ = not (same_hop (hop_of p h) (hop_of p k)) in
      let a = and_parts (is_static p r && has_hop hops h && has_hop hops k && differ) (is_lower (hop_order h) (hop_order k)) t in
      let b = and_parts (is_static p r && has_hop hops h && has_hop hops k) differ a.0 in
      let c = and_parts (is_static p r && has_hop hops h) (has_hop hops k) b.0 in
      let d = and_parts (is_static p r) (has_hop hops h) c.0 in
      (fixed_is_there p r d.0, hop_in m.site (permits_in m) r n h (in_has hops h d.1), hop_in m.site (permits_in m) r n k (in_has hops k c.1))

  two_listed : AreListed m 14 TwoItem two_fault AreTwoItem (pairs_of places hop_pairs) ItemBefore
  two_listed = record {
    row = λ e. refl;
    each = λ f r h. each_two f r;
    sound = λ e i t. (from_places e.0 (from_pairs places hop_pairs e i).0, t);
    listed = λ e h.
        let t = two_there e.0.0 e.0.1 e.1.0 e.1.1 h.1 in (
          in_pairs e.0 e.1 places hop_pairs (in_places e.0.0 e.0.1 t.0 h.0)
              (in_pairs e.1.0 e.1.1 (all_next_hops p) (all_next_hops p) (hop_listed p e.1.0 t.1) (hop_listed p e.1.1 t.2)),
          h.1,
        );
    order = order_pairs TwoBefore PairOfHopsBefore places hop_pairs order_places (order_pairs HopBefore HopBefore (all_next_hops p) (all_next_hops p) order_hops order_hops);
    lower = λ x y t u b.
        lower_later 14 14 (x.0.0 ∷ x.0.1 ∷ (hop_order x.1.0 ++ hop_order x.1.1)) (y.0.0 ∷ y.0.1 ∷ (hop_order y.1.0 ++ hop_order y.1.1)) refl (lower_two x y b);
  }

  pub ambiguous_first : IsFirstCase m 14 14 (ambiguous_case m)
  ambiguous_first = listed_first m 14 TwoItem two_fault AreTwoItem (pairs_of places hop_pairs) ItemBefore two_listed

  -- ---- all of them

  pub routes_first : IsFirstCase m 12 14 (option_or (option_or (routes_case m) (bare_case m)) (ambiguous_case m))
  routes_first =
      joined m 12 13 14 (omega arith) (omega arith) (option_or (routes_case m) (bare_case m)) (ambiguous_case m)
      (joined m 12 12 13 (omega arith) (omega arith) (routes_case m) (bare_case m) (limit_first m) bare_first) ambiguous_first
