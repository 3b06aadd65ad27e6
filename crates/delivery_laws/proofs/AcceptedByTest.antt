-- A test that computes, of a policy without areas whose hosts have one address each: it shows that the policy has no fault.
use Rattle.std.proofs.Common.{◌≡◌, ℕ, zero, suc, ◌<◌, ◌≤◌, inl, inr, Bool, true, false, not, ◌&&◌, ◌||◌, List, [], ◌∷◌, ◌++◌, length, refl, sym, ap, subst, ◌∙◌, ⊎_elim, arith}
use Rattle.std.specs.Prelude.{◌==◌, nat_lt, nat_le, Option, Some, None, option_and_then, slice_index_or}
use Rattle.std.specs.List.{list_any, list_all}
use Rattle.std.proofs.lemmas.Bool.{and_parts, and_from, or_cases, eqb-true, eq-eqb, ltb-true, lt-ltb, leb-true, false≢true, not-true, cases_lt}
use Rattle.std.proofs.lemmas.List.{get_or_past}
use Rattle.spoc_base.specs.Address.{Interval, within}
use Rattle.policy_model.specs.Lists.{has, numbers_below}
use Rattle.policy_model.specs.Policy.{Policy, Net, Router, Rule, Service, no_net, net_of, host_of, iface_of, net_at, router_at}
use Rattle.policy_model.specs.Paths.{Crossing, is_through_router, crosses_managed}
use Rattle.policy_model.specs.Policy.{is_managed}
use Rattle.policy_model.specs.Zones.{Site, zone_of, zone_at, zone_count}
use Rattle.policy_model.specs.Tags.{Views, AreViews, IsBarred, binds, keeps_tag, zone_view, router_view}
use Rattle.policy_model.specs.Places.{translated_address, place, is_number}
use Rattle.policy_model.specs.Objects.{Object, NetObject, HostObject, IfaceObject, objects_of}
use Rattle.policy_model.specs.Permits.{Permit, one_address, permit_count}
use Rattle.policy_model.specs.Blocks.{permit_at, no_permit}
use Rattle.policy_model.specs.Routes.{NextHop, Hop, same_number, same_next_hop, same_hop, hop_of, hops_of, table_hops, is_static}
use Rattle.policy_model.specs.Faults.{is_translated_twice, is_translated_inside, has_tag, view_count, is_same_prefix, IsShadowed, is_hidden_end, is_managed_end, has_managed_end, has_no_path, has_bare_hop, has_two_hops, lacks_address}
use Rattle.policy_model.specs.FirstFault.{AreaSplit, NatConflict, NatTwice, NatInside, LimitViews, SamePrefix, HostShadowed, IfaceShadowed, ManagedEnd, LimitPermits, NoPath, HiddenEnd, LimitLines, LimitRoutes, NoHopAddress, AmbiguousHop, ViewPlace, AtZone, AtRouter, view_at, is_there, most_views, most_items, line_count, route_count, no_service, is_bare_next, has_hop, is_lower, hop_order, address_at, IsAccepted}
use Rattle.policy_model.specs.Headline.{Meaning, permits_in}
use Rattle.policy_model.proofs.AllWalks.{IsIn}
use Rattle.policy_model.proofs.Tested.{each_below, each_two, each_two_below, if_so, if_so_lem, Reaches-stays, crossing_below}
use Rattle.list_laws.proofs.Members.{some_in, some_of, each_in}
use Rattle.list_laws.proofs.Tables.{only_one}
use Rattle.policy_laws.proofs.Accepted.{same_hop_refl}
use Rattle.policy_laws.proofs.NextHops.{same_next_hop_true, in_table_hops}
use Rattle.policy_model.proofs.Shorthand.{policy_of}

-- ---- words

-- a test of each number in a list, at one of them
each_number : (test : ℕ → Bool) (xs : List ℕ) (n : ℕ) → list_all test xs ≡ true → has xs n ≡ true → test n ≡ true
each_number test [] n all here = absurd (false≢true here)
each_number test (x ∷ xs) n all here =
    let a = and_parts (test x) (list_all test xs) all in
    ⊎_elim (λ e. subst (λ (k : ℕ). test k ≡ true) (eqb-true x n e) a.0) (λ g. each_number test xs n a.1 g) (or_cases (x == n) (has xs n) here)

-- a policy of nothing but routers
abbrev only : List Router → Policy
only routers = policy_of [] [] routers [] [] [] []

static_below : (routers : List Router) (r : ℕ) → is_static (only routers) r ≡ true → r < length routers
static_below [] r h = absurd (false≢true h)
static_below (x ∷ routers) zero h = omega arith
static_below (x ∷ routers) (suc r) h = let g = static_below routers r h in omega (arith, g)

never : (b : Bool) → not b ≡ true → b ≡ true → ⊥
never b h e = false≢true (sym (not-true b h) ∙ e)

in_at : {A : Type 0} (xs : List A) (d : A) (k : ℕ) → k < length xs → IsIn (slice_index_or xs k d) xs
in_at [] d k h = absurd (omega arith)
in_at (x ∷ xs) d zero h = inl refl
in_at (x ∷ xs) d (suc k) h = inr (in_at xs d k (omega arith))

one_of : (r : Interval) (a : ℕ) → (r.first == r.last) ≡ true → within r a ≡ true → a ≡ r.first
one_of r a single inside =
    let w = and_parts (nat_le r.first a) (nat_le a r.last) inside in
    let low = leb-true r.first a w.0 in
    let high = leb-true a r.last w.1 in
    let same = eqb-true r.first r.last single in
    omega (arith, low, high, same)

number_is : (o : Option ℕ) (n : ℕ) → is_number o n ≡ true → o ≡ Some n
number_is None n h = absurd (false≢true h)
number_is (Some k) n h = ap Some (eqb-true k n h)

has_it : (hops : List NextHop) (h : NextHop) → has_hop hops h ≡ true → IsIn h hops
has_it hops h t = let w = some_in (same_next_hop h) hops t in subst (λ (x : NextHop). IsIn x hops) (sym (same_next_hop_true h w.0 w.2)) w.1

abbrev pub is_no_iface : Object → Bool
is_no_iface (NetObject n) = true
is_no_iface (HostObject h) = true
is_no_iface (IfaceObject i) = false

no_managed_end : (p : Policy) (i : ℕ) (o : Object) → is_no_iface o ≡ true → is_managed_end p i o ≡ true → ⊥
no_managed_end p i (NetObject n) h e = false≢true e
no_managed_end p i (HostObject k) h e = false≢true e
no_managed_end p i (IfaceObject j) h e = false≢true h

module _ (m : Meaning) where
  abbrev s : Site
  s = m.site

  abbrev p : Policy
  p = m.site.policy

  abbrev v : Views
  v = m.views

  abbrev permits : List Permit
  permits = permits_in m

  -- a test of each view
  abbrev pub each_view : (List ℕ → Bool) → Bool
  each_view test = list_all (λ z. test (zone_view v z)) (numbers_below (zone_count s)) && list_all (λ r. test (router_view v r)) (numbers_below (length p.routers))

  at_view : (test : List ℕ → Bool) → each_view test ≡ true → (at : ViewPlace) → is_there s at ≡ true → test (view_at v at) ≡ true
  at_view test h (AtZone z) there =
      let a = and_parts (list_all (λ z. test (zone_view v z)) (numbers_below (zone_count s))) (list_all (λ r. test (router_view v r)) (numbers_below (length p.routers))) h in
      each_below (λ z. test (zone_view v z)) (zone_count s) a.0 z (ltb-true z (zone_count s) there)
  at_view test h (AtRouter r) there =
      let a = and_parts (list_all (λ z. test (zone_view v z)) (numbers_below (zone_count s))) (list_all (λ r. test (router_view v r)) (numbers_below (length p.routers))) h in
      each_below (λ r. test (router_view v r)) (length p.routers) a.1 r (ltb-true r (length p.routers) there)

  -- ---- tags

  abbrev pub sees : ℕ → ℕ → Bool
  sees tag z = has (zone_view v z) tag

  abbrev pub stays_out : ℕ → Bool
  stays_out tag = each_two (λ i j. if_so (keeps_tag p tag (record { enter = i; leave = j })) (if_so (not (sees tag (zone_at s i))) (not (sees tag (zone_at s j))))) (length p.ifaces)

  -- behind the other side of a router that binds it, a tag is in no view
  abbrev pub is_out_behind : ℕ → ℕ → ℕ → Bool
  is_out_behind b tag i = if_so ((router_at p i == router_at p b) && not (binds p i tag)) (not (sees tag (zone_at s i)))

  abbrev pub no_conflict : Bool
  no_conflict = list_all (λ b. list_all (λ tag. list_all (is_out_behind b tag) (numbers_below (length p.ifaces)) && stays_out tag) (iface_of p b).binds) (numbers_below (length p.ifaces))

  out_stays : (tag : ℕ) → stays_out tag ≡ true → (c : Crossing) → keeps_tag p tag c ≡ true → not (sees tag (zone_at s c.enter)) ≡ true → not (sees tag (zone_at s c.leave)) ≡ true
  out_stays tag h c keeps here =
      let a = and_parts (crosses_managed p c && not (binds p c.enter tag)) (not (binds p c.leave tag)) keeps in
      let b = and_parts (crosses_managed p c) (not (binds p c.enter tag)) a.0 in
      let d = and_parts (is_through_router p c) (is_managed p (router_at p c.enter)) b.0 in
      let e = crossing_below p c d.0 in
      let t = each_two_below (λ i j. if_so (keeps_tag p tag (record { enter = i; leave = j })) (if_so (not (sees tag (zone_at s i))) (not (sees tag (zone_at s j))))) (length p.ifaces) h c.enter c.leave e.0 e.1 in
      if_so_lem (not (sees tag (zone_at s c.enter))) (not (sees tag (zone_at s c.leave)))
      (if_so_lem (keeps_tag p tag c) (if_so (not (sees tag (zone_at s c.enter))) (not (sees tag (zone_at s c.leave)))) t keeps) here

  barred_out : no_conflict ≡ true → (tag z : ℕ) → IsBarred s tag z → not (sees tag z) ≡ true
  barred_out h tag z b =
      let n = length p.ifaces in
      let t = each_below (λ b. list_all (λ tag. list_all (is_out_behind b tag) (numbers_below n) && stays_out tag) (iface_of p b).binds) n h b.binder b.there.1 in
      let u = each_number (λ tag. list_all (is_out_behind b.binder tag) (numbers_below n) && stays_out tag) (iface_of p b.binder).binds tag t b.bound in
      let w = and_parts (list_all (is_out_behind b.binder tag) (numbers_below n)) (stays_out tag) u in
      let here = each_below (is_out_behind b.binder tag) n w.0 b.iface b.there.0 in
      let out = if_so_lem ((router_at p b.iface == router_at p b.binder) && not (binds p b.iface tag)) (not (sees tag (zone_at s b.iface))) here
      (and_from (router_at p b.iface == router_at p b.binder) (not (binds p b.iface tag)) (eq-eqb (router_at p b.iface) (router_at p b.binder) b.one_router) b.unbound) in
      Reaches-stays (keeps_tag p tag) (zone_at s) (λ z. not (sees tag z)) (out_stays tag w.1) (zone_at s b.iface) z b.chain out

  -- the tags of a network are no two in force in a zone
  abbrev pub none_twice : Bool
  none_twice =
      list_all (λ z. list_all (λ n. list_all (λ (a : ℕ × _). list_all (λ (b : ℕ × _). not (is_translated_twice s v n z a.0 b.0)) (net_of p n).nats) (net_of p n).nats) (numbers_below (length p.nets)))
      (numbers_below (zone_count s))

  abbrev pub none_inside : Bool
  none_inside = list_all (λ n. list_all (λ (a : ℕ × _). not (is_translated_inside s v n a.0)) (net_of p n).nats) (numbers_below (length p.nets))

  -- a network that has a tag is there
  tagged_there : (n tag : ℕ) → has_tag p n tag ≡ true → n < length p.nets
  tagged_there n tag h =
      ⊎_elim (λ below. below) (λ past. absurd (false≢true (sym (ap (λ (x : Net). list_any (λ nat. nat.0 == tag) x.nats) (get_or_past p.nets n no_net past)) ∙ h))) (cases_lt n (length p.nets))

  not_twice : none_twice ≡ true → (n z tag other : ℕ) → z < zone_count s → is_translated_twice s v n z tag other ≡ true → ⊥
  not_twice h n z tag other hz twice =
      let a = and_parts (nat_lt tag other && has_tag p n tag && has_tag p n other && has (zone_view v z) tag) (has (zone_view v z) other) twice in
      let b = and_parts (nat_lt tag other && has_tag p n tag && has_tag p n other) (has (zone_view v z) tag) a.0 in
      let c = and_parts (nat_lt tag other && has_tag p n tag) (has_tag p n other) b.0 in
      let d = and_parts (nat_lt tag other) (has_tag p n tag) c.0 in
      let below = tagged_there n tag d.1 in
      let nats = (net_of p n).nats in
      let x = some_in (λ nat. nat.0 == tag) nats d.1 in
      let y = some_in (λ nat. nat.0 == other) nats c.1 in
      let t = each_below (λ z. list_all (λ n. list_all (λ (a : ℕ × _). list_all (λ (b : ℕ × _). not (is_translated_twice s v n z a.0 b.0)) (net_of p n).nats) (net_of p n).nats) (numbers_below (length p.nets))) (zone_count s) h z hz in
      let u = each_below (λ n. list_all (λ (a : ℕ × _). list_all (λ (b : ℕ × _). not (is_translated_twice s v n z a.0 b.0)) (net_of p n).nats) (net_of p n).nats) (length p.nets) t n below in
      let w = each_in (λ (a : ℕ × _). list_all (λ (b : ℕ × _). not (is_translated_twice s v n z a.0 b.0)) nats) nats u x.0 x.1 in
      let q = each_in (λ (b : ℕ × _). not (is_translated_twice s v n z x.0.0 b.0)) nats w y.0 y.1 in
      never (is_translated_twice s v n z x.0.0 y.0.0) q
      (subst (λ (k : ℕ). is_translated_twice s v n z k y.0.0 ≡ true) (sym (eqb-true x.0.0 tag x.2)) (subst (λ (k : ℕ). is_translated_twice s v n z tag k ≡ true) (sym (eqb-true y.0.0 other y.2)) twice))

  not_inside : none_inside ≡ true → (n tag : ℕ) → n < length p.nets → is_translated_inside s v n tag ≡ true → ⊥
  not_inside h n tag below inside =
      let a = and_parts (has_tag p n tag) (has (zone_view v (zone_of s n)) tag) inside in
      let nats = (net_of p n).nats in
      let x = some_in (λ nat. nat.0 == tag) nats a.0 in
      let t = each_below (λ n. list_all (λ (a : ℕ × _). not (is_translated_inside s v n a.0)) (net_of p n).nats) (length p.nets) h n below in
      let u = each_in (λ (a : ℕ × _). not (is_translated_inside s v n a.0)) nats t x.0 x.1 in
      never (is_translated_inside s v n x.0.0) u (subst (λ (k : ℕ). is_translated_inside s v n k ≡ true) (sym (eqb-true x.0.0 tag x.2)) inside)

  -- ---- prefixes and places

  abbrev pub none_same : Bool
  none_same = each_view (λ view. each_two (λ n o. not (is_same_prefix p view n o)) (length p.nets))

  not_same : none_same ≡ true → (n o : ℕ) (at : ViewPlace) → o < length p.nets → is_there s at ≡ true → is_same_prefix p (view_at v at) n o ≡ true → ⊥
  not_same h n o at there place same =
      let less = ltb-true n o (and_parts (nat_lt n o) _ same).0 in
      never (is_same_prefix p (view_at v at) n o)
      (each_two_below (λ n o. not (is_same_prefix p (view_at v at) n o)) (length p.nets) (at_view (λ view. each_two (λ n o. not (is_same_prefix p view n o)) (length p.nets)) h at place) n o (omega (arith, less, there)) there) same

  -- the one address of the range is placed at its network
  abbrev pub is_at_home : ℕ → Interval → List ℕ → Bool
  is_at_home n r view = (r.first == r.last) && is_number (option_and_then (place p view) (translated_address p view n r.first)) n

  not_shadowed : (n : ℕ) (r : Interval) (view : List ℕ) (o : ℕ) → is_at_home n r view ≡ true → IsShadowed p view n r o → ⊥
  not_shadowed n r view o home x =
      let a = and_parts (r.first == r.last) (is_number (option_and_then (place p view) (translated_address p view n r.first)) n) home in
      let its = one_of r x.address a.0 x.inside in
      let here = number_is (option_and_then (place p view) (translated_address p view n r.first)) n a.1 in
      let both : Some o ≡ Some n = sym x.placed ∙ (ap (λ (k : ℕ). option_and_then (place p view) (translated_address p view n k)) its ∙ here) in
      x.elsewhere (cc both)

  abbrev pub hosts_at_home : Bool
  hosts_at_home = each_view (λ view. list_all (λ h. is_at_home (host_of p h).net (host_of p h).range view) (numbers_below (length p.hosts)))

  abbrev pub is_iface_at_home : List ℕ → ℕ → Bool
  is_iface_at_home view i = by_addr (address_at p i false) && by_addr (address_at p i true)
    where
      by_addr : Option ℕ → Bool
      by_addr None = true
      by_addr (Some a) = is_at_home (net_at p i) (one_address a) view

  abbrev pub ifaces_at_home : Bool
  ifaces_at_home = each_view (λ view. list_all (is_iface_at_home view) (numbers_below (length p.ifaces)))

  -- ---- services and permits

  abbrev pub no_iface_ends : Bool
  no_iface_ends =
      list_all (λ (service : Service). list_all (λ rule. list_all is_no_iface (objects_of s m.areas (objects_of s m.areas [] service.user) rule.src ++ objects_of s m.areas (objects_of s m.areas [] service.user) rule.dst)) service.rules)
      p.services

  abbrev pub all_seen : Bool
  all_seen = list_all (λ q. list_all (λ z. not (is_hidden_end s v q q.src.net z) && not (is_hidden_end s v q q.dst.net z)) (numbers_below (zone_count s))) permits

  abbrev pub all_joined : Bool
  all_joined = list_all (λ q. not (has_no_path s q)) permits

  abbrev pub within_limits : Bool
  within_limits = nat_le (view_count v) most_views && nat_le (permit_count s m.areas) most_items && nat_le (line_count s v permits) most_items && nat_le (route_count s permits) most_items

  abbrev pub clear_hops : Bool
  clear_hops = list_all (λ r. list_all (λ n. not (has_bare_hop s permits r n) && not (has_two_hops s permits r n)) (numbers_below (length p.nets))) (numbers_below (length p.routers))

  hops_at : clear_hops ≡ true → (r n : ℕ) → is_static p r ≡ true → n < length p.nets → (not (has_bare_hop s permits r n) ≡ true) × (not (has_two_hops s permits r n) ≡ true)
  hops_at h r n fixed below =
      let t = each_below (λ r. list_all (λ n. not (has_bare_hop s permits r n) && not (has_two_hops s permits r n)) (numbers_below (length p.nets))) (length p.routers) h r (static_below p.routers r fixed) in
      let u = each_below (λ n. not (has_bare_hop s permits r n) && not (has_two_hops s permits r n)) (length p.nets) t n below in
      and_parts (not (has_bare_hop s permits r n)) (not (has_two_hops s permits r n)) u

  pub record Passed : Type 0 where
    pub areas : length p.areas ≡ 0
    pub conflict : no_conflict ≡ true
    pub twice : none_twice ≡ true
    pub inside : none_inside ≡ true
    pub same : none_same ≡ true
    pub hosts : hosts_at_home ≡ true
    pub ifaces : ifaces_at_home ≡ true
    pub ends : no_iface_ends ≡ true
    pub seen : all_seen ≡ true
    pub joined : all_joined ≡ true
    pub limits : within_limits ≡ true
    pub hops : clear_hops ≡ true

  at_limits : within_limits ≡ true → (view_count v ≤ most_views) × (permit_count s m.areas ≤ most_items) × (line_count s v permits ≤ most_items) × (route_count s permits ≤ most_items)
  at_limits h =
      let a = and_parts (nat_le (view_count v) most_views && nat_le (permit_count s m.areas) most_items && nat_le (line_count s v permits) most_items) (nat_le (route_count s permits) most_items) h in
      let b = and_parts (nat_le (view_count v) most_views && nat_le (permit_count s m.areas) most_items) (nat_le (line_count s v permits) most_items) a.0 in
      let c = and_parts (nat_le (view_count v) most_views) (nat_le (permit_count s m.areas) most_items) b.0 in
      (leb-true (view_count v) most_views c.0, leb-true (permit_count s m.areas) most_items c.1, leb-true (line_count s v permits) most_items b.1, leb-true (route_count s permits) most_items a.1)

  over : (n most : ℕ) → n ≤ most → most < n → ⊥
  over n most a b = omega arith

  host_home : hosts_at_home ≡ true → (h : ℕ) (at : ViewPlace) → h < length p.hosts → is_there s at ≡ true → is_at_home (host_of p h).net (host_of p h).range (view_at v at) ≡ true
  host_home t h at below place =
      each_below (λ h. is_at_home (host_of p h).net (host_of p h).range (view_at v at)) (length p.hosts)
      (at_view (λ view. list_all (λ h. is_at_home (host_of p h).net (host_of p h).range view) (numbers_below (length p.hosts))) t at place) h below

  iface_home : ifaces_at_home ≡ true → (i : ℕ) (at : ViewPlace) → i < length p.ifaces → is_there s at ≡ true → is_iface_at_home (view_at v at) i ≡ true
  iface_home t i at below place =
      each_below (is_iface_at_home (view_at v at)) (length p.ifaces) (at_view (λ view. list_all (is_iface_at_home view) (numbers_below (length p.ifaces))) t at place) i below

  home_of : (view : List ℕ) (i : ℕ) (shared : Bool) (a : ℕ) → address_at p i shared ≡ Some a → is_iface_at_home view i ≡ true → is_at_home (net_at p i) (one_address a) view ≡ true
  home_of view i shared a is h =
      let w = and_parts (by_option (address_at p i false)) (by_option (address_at p i true)) h in
      ap (λ (o : Option ℕ). by_option o) (sym is) ∙ of_both shared w.0 w.1
    where
      by_option : Option ℕ → Bool
      by_option None = true
      by_option (Some a) = is_at_home (net_at p i) (one_address a) view

      of_both : (b : Bool) → by_option (address_at p i false) ≡ true → by_option (address_at p i true) ≡ true → by_option (address_at p i b) ≡ true
      of_both true x y = y
      of_both false x y = x

  no_ends : no_iface_ends ≡ true → (k i : ℕ) → k < length p.services → has_managed_end s m.areas (slice_index_or p.services k no_service) i ≡ true → ⊥
  no_ends t k i below h =
      let service : Service = slice_index_or p.services k no_service in
      let user = objects_of s m.areas [] service.user in
      let a = each_in (λ (service : Service). list_all (λ rule. list_all is_no_iface (objects_of s m.areas (objects_of s m.areas [] service.user) rule.src ++ objects_of s m.areas (objects_of s m.areas [] service.user) rule.dst)) service.rules) p.services t service (in_at p.services no_service k below) in
      let r = some_in (λ (rule : Rule). list_any (is_managed_end p i) (objects_of s m.areas user rule.src ++ objects_of s m.areas user rule.dst)) service.rules h in
      let rule : Rule = r.0 in
      let ends = objects_of s m.areas user rule.src ++ objects_of s m.areas user rule.dst in
      let b = each_in (λ (rule : Rule). list_all is_no_iface (objects_of s m.areas user rule.src ++ objects_of s m.areas user rule.dst)) service.rules a rule r.1 in
      let o = some_in (is_managed_end p i) ends r.2 in
      no_managed_end p i o.0 (each_in is_no_iface ends b o.0 o.1) o.2

  no_path : all_joined ≡ true → (u w : ℕ) → list_any (λ q. (q.src.net == u) && (q.dst.net == w) && has_no_path s q) permits ≡ true → ⊥
  no_path t u w h =
      let x = some_in (λ (q : Permit). (q.src.net == u) && (q.dst.net == w) && has_no_path s q) permits h in
      let q : Permit = x.0 in
      let a = and_parts ((q.src.net == u) && (q.dst.net == w)) (has_no_path s q) x.2 in
      never (has_no_path s q) (each_in (λ q. not (has_no_path s q)) permits t q x.1) a.1

  seen_ends : all_seen ≡ true → (q : Permit) → IsIn q permits → (n z : ℕ) → z < zone_count s → is_hidden_end s v q n z ≡ true → ⊥
  seen_ends t q there n z below hidden =
      let a = and_parts _ _ hidden in
      let b = and_parts _ _ a.0 in
      let c = and_parts (not (zone_of s q.src.net == zone_of s q.dst.net)) ((n == q.src.net) || (n == q.dst.net)) b.0 in
      let test = λ (z : ℕ). not (is_hidden_end s v q q.src.net z) && not (is_hidden_end s v q q.dst.net z) in
      let u = each_in (λ (q : Permit). list_all (λ z. not (is_hidden_end s v q q.src.net z) && not (is_hidden_end s v q q.dst.net z)) (numbers_below (zone_count s))) permits t q there in
      let w = and_parts (not (is_hidden_end s v q q.src.net z)) (not (is_hidden_end s v q q.dst.net z)) (each_below test (zone_count s) u z below) in
      ⊎_elim (λ e. never (is_hidden_end s v q q.src.net z) w.0 (subst (λ (k : ℕ). is_hidden_end s v q k z ≡ true) (eqb-true n q.src.net e) hidden))
      (λ e. never (is_hidden_end s v q q.dst.net z) w.1 (subst (λ (k : ℕ). is_hidden_end s v q k z ≡ true) (eqb-true n q.dst.net e) hidden))
      (or_cases (n == q.src.net) (n == q.dst.net) c.1)

  no_bare : clear_hops ≡ true → (r n i : ℕ) → n < length p.nets → (is_static p r && list_any (is_bare_next p i) (hops_of s permits r n)) ≡ true → ⊥
  no_bare t r n i below h =
      let hops = hops_of s permits r n in
      let a = and_parts (is_static p r) (list_any (is_bare_next p i) hops) h in
      let x = some_in (is_bare_next p i) hops a.1 in
      let hop : NextHop = x.0 in
      let lacks = (and_parts (same_number hop.next (Some i)) (lacks_address p hop) x.2).1 in
      never (has_bare_hop s permits r n) (hops_at t r n a.0 below).0 (and_from (is_static p r) (list_any (lacks_address p) hops) a.0 (some_of (lacks_address p) hop hops x.1 lacks))

  no_two : clear_hops ≡ true → (r n : ℕ) (h k : NextHop) → n < length p.nets →
      (is_static p r && has_hop (hops_of s permits r n) h && has_hop (hops_of s permits r n) k && not (same_hop (hop_of p h) (hop_of p k)) && is_lower (hop_order h) (hop_order k)) ≡ true → ⊥
  no_two t r n h k below all =
      let hops = hops_of s permits r n in
      let told = table_hops s permits r n in
      let other = not (same_hop (hop_of p h) (hop_of p k)) in
      let d = and_parts (is_static p r && has_hop hops h && has_hop hops k && other) (is_lower (hop_order h) (hop_order k)) all in
      let a = and_parts (is_static p r && has_hop hops h && has_hop hops k) other d.0 in
      let b = and_parts (is_static p r && has_hop hops h) (has_hop hops k) a.0 in
      let c = and_parts (is_static p r) (has_hop hops h) b.0 in
      let few : length told ≤ 1 =
      ⊎_elim
      (λ (more : 1 < length told). absurd (never (has_two_hops s permits r n) (hops_at t r n c.0 below).1 (and_from (is_static p r) (nat_lt 1 (length told)) c.0 (lt-ltb 1 (length told) more))))
      (λ le. le) (cases_lt 1 (length told)) in
      let same : hop_of p h ≡ hop_of p k =
      only_one told (hop_of p h) (hop_of p k) few (in_table_hops s permits r n h (has_it hops h c.1)) (in_table_hops s permits r n k (has_it hops k b.1)) in
      never (same_hop (hop_of p h) (hop_of p k)) a.1 (subst (λ (x : Hop). same_hop (hop_of p h) x ≡ true) same (same_hop_refl (hop_of p h)))

  pub accepted : AreViews s v → Passed → IsAccepted m
  accepted views t (AreaSplit k i) f = absurd (let a = f.0 in let b = t.areas in omega (arith, a, b))
  accepted views t (NatConflict tag z) f = never (sees tag z) (barred_out t.conflict tag z f.1.1) ((views.active z tag f.0).1 f.1.0)
  accepted views t (NatTwice n z tag other) f = not_twice t.twice n z tag other f.0 f.1
  accepted views t (NatInside n tag) f = not_inside t.inside n tag f.0 f.1
  accepted views t LimitViews f = over (view_count v) most_views (at_limits t.limits).0 f
  accepted views t (SamePrefix n o at) f = not_same t.same n o at f.0 f.1 f.2
  accepted views t (HostShadowed h o at) f = not_shadowed (host_of p h).net (host_of p h).range (view_at v at) o (host_home t.hosts h at f.0 f.1) f.2
  accepted views t (IfaceShadowed i shared o at) f =
      let x = f.2 in
      not_shadowed (net_at p i) (one_address x.address) (view_at v at) o (home_of (view_at v at) i shared x.address x.its (iface_home t.ifaces i at f.0 f.1)) x.shadowed
  accepted views t (ManagedEnd k i) f = no_ends t.ends k i f.0 f.1
  accepted views t LimitPermits f = over (permit_count s m.areas) most_items (at_limits t.limits).1 f
  accepted views t (NoPath u w) f = no_path t.joined u w f
  accepted views t (HiddenEnd k u w n z) f = seen_ends t.seen (permit_at permits k) (in_at permits no_permit k f.0) n z f.1 f.2
  accepted views t LimitLines f = over (line_count s v permits) most_items (at_limits t.limits).2 f
  accepted views t LimitRoutes f = over (route_count s permits) most_items (at_limits t.limits).3 f
  accepted views t (NoHopAddress r n i) f = no_bare t.hops r n i f.0 f.1
  accepted views t (AmbiguousHop r n h k) f = no_two t.hops r n h k f.0 f.1
