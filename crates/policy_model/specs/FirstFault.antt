-- Which fault of a policy counts, from a split area to an ambiguous hop: each row of faults in its place, and of several cases of one row that of the least
-- values.
use Rattle.std.specs.Prelude.{◌≡◌, ℕ, suc, ◌<◌, Bool, true, false, not, ◌&&◌, ◌||◌, ◌==◌, nat_lt, if◌then◌else◌, List, [], ◌∷◌, ◌++◌, length, map, filter, sum, Option, Some, None, is_some, slice_index_or, IsTrue}
use Rattle.std.specs.List.{list_any}
use Rattle.policy_model.specs.Lists.{pairs_of}
use Rattle.policy_model.specs.Policy.{Policy, Service, NoObjects, host_of, iface_of, net_at, router_at, is_managed, all_nets, all_routers, all_ifaces}
use Rattle.policy_model.specs.Zones.{Site, zone_count}
use Rattle.policy_model.specs.Tags.{Views, zone_view, router_view}
use Rattle.policy_model.specs.Permits.{Permit, one_address, permit_count}
use Rattle.policy_model.specs.Blocks.{list_at, permit_at}
use Rattle.policy_model.specs.Routes.{NextHop, same_number, same_next_hop, same_hop, hop_of, hops_of, is_static}
use Rattle.policy_model.specs.Faults.{is_split, IsConflicting, is_translated_twice, is_translated_inside, view_count, is_same_prefix, IsShadowed, is_hidden_end, has_managed_end, has_no_path, lacks_address}
use Rattle.policy_model.specs.Headline.{Meaning, permits_in}

-- where a view is: all zones come before all routers
pub data ViewPlace : Type 0 where
  AtZone : (zone : ℕ) → ViewPlace
  AtRouter : (router : ℕ) → ViewPlace

abbrev pub view_at : Views → ViewPlace → List ℕ
view_at v (AtZone z) = zone_view v z
view_at v (AtRouter r) = router_view v r

abbrev pub is_there : Site → ViewPlace → Bool
is_there s (AtZone z) = nat_lt z (zone_count s)
is_there s (AtRouter r) = nat_lt r (length s.policy.routers)

-- A fault with what is printed of it. An ambiguous hop is printed with its two least hops.
pub data FaultCase : Type 0 where
  AreaSplit : (area border : ℕ) → FaultCase
  NatConflict : (tag zone : ℕ) → FaultCase
  NatTwice : (net zone tag other : ℕ) → FaultCase
  NatInside : (net tag : ℕ) → FaultCase
  LimitViews : FaultCase
  SamePrefix : (net other : ℕ) (at : ViewPlace) → FaultCase
  HostShadowed : (host net : ℕ) (at : ViewPlace) → FaultCase
  IfaceShadowed : (iface : ℕ) (shared : Bool) (net : ℕ) (at : ViewPlace) → FaultCase
  ManagedEnd : (service iface : ℕ) → FaultCase
  LimitPermits : FaultCase
  NoPath : (src dst : ℕ) → FaultCase
  HiddenEnd : (permit src dst net zone : ℕ) → FaultCase
  LimitLines : FaultCase
  LimitRoutes : FaultCase
  NoHopAddress : (router net iface : ℕ) → FaultCase
  AmbiguousHop : (router net : ℕ) (first second : NextHop) → FaultCase

-- ---- what is compared

-- the first list comes before the second in the order of words
abbrev pub is_lower : List ℕ → List ℕ → Bool
is_lower xs [] = false
is_lower [] (y ∷ ys) = true
is_lower (x ∷ xs) (y ∷ ys) = nat_lt x y || ((x == y) && is_lower xs ys)

-- by the leaving interface, a direct hop first, and then by the next interface
abbrev pub hop_order : NextHop → List ℕ
hop_order h = h.out ∷ next_order h.next ∷ []
  where
    next_order : Option ℕ → ℕ
    next_order None = 0
    next_order (Some k) = suc k

abbrev pub place_order : ViewPlace → List ℕ
place_order (AtZone z) = 0 ∷ z ∷ []
place_order (AtRouter r) = 1 ∷ r ∷ []

-- The row of the fault, and then its values in the order in which they are compared: mostly as they are printed, but the zone or the view first where there
-- is one, hosts before interfaces, own addresses before shared ones, and for a hidden end the permit, the zone, and the source first.
abbrev pub order_of : List Permit → FaultCase → List ℕ
order_of permits (AreaSplit area border) = 0 ∷ area ∷ border ∷ []
order_of permits (NatConflict tag zone) = 1 ∷ zone ∷ tag ∷ []
order_of permits (NatTwice net zone tag other) = 2 ∷ zone ∷ net ∷ tag ∷ other ∷ []
order_of permits (NatInside net tag) = 3 ∷ net ∷ tag ∷ []
order_of permits LimitViews = 4 ∷ []
order_of permits (SamePrefix net other at) = 5 ∷ (place_order at ++ net ∷ other ∷ [])
order_of permits (HostShadowed host net at) = 6 ∷ (place_order at ++ 0 ∷ host ∷ net ∷ [])
order_of permits (IfaceShadowed iface shared net at) = 6 ∷ (place_order at ++ 1 ∷ iface ∷ (if shared then 1 else 0) ∷ net ∷ [])
order_of permits (ManagedEnd service iface) = 7 ∷ service ∷ iface ∷ []
order_of permits LimitPermits = 8 ∷ []
order_of permits (NoPath src dst) = 9 ∷ src ∷ dst ∷ []
order_of permits (HiddenEnd permit src dst net zone) = 10 ∷ permit ∷ zone ∷ (if (permit_at permits permit).src.net == net then 0 else 1) ∷ []
order_of permits LimitLines = 11 ∷ []
order_of permits LimitRoutes = 12 ∷ []
order_of permits (NoHopAddress router net iface) = 13 ∷ router ∷ net ∷ iface ∷ []
order_of permits (AmbiguousHop router net first second) = 14 ∷ router ∷ net ∷ (hop_order first ++ hop_order second)

-- ---- limits

-- different sets of tags in force, in zones and routers
abbrev pub most_views : ℕ
most_views = 256

-- listed permits, listed denials and expanded permits, each by itself, lines before they are optimised, and networks to which a static router has a hop that isn't direct
abbrev pub most_items : ℕ
most_items = 4000000

-- the lines of all managed interfaces, before they are optimised
abbrev pub line_count : Site → Views → List Permit → ℕ
line_count s v permits = sum (map (λ i. length (list_at s v permits i)) (filter (λ i. is_managed s.policy (router_at s.policy i)) (all_ifaces s.policy)))

-- the pairs of a static router and a network to which it has a hop that isn't direct
abbrev pub route_count : Site → List Permit → ℕ
route_count s permits =
    length (filter (λ e. is_static s.policy e.0 && list_any (λ h. is_some h.next) (hops_of s permits e.0 e.1)) (pairs_of (all_routers s.policy) (all_nets s.policy)))

-- ---- which faults there are

abbrev pub no_service : Service
no_service = record { name = []; user = NoObjects; rules = [] }

-- the shared address of the interface, or its own
abbrev pub address_at : Policy → ℕ → Bool → Option ℕ
address_at p i shared = if shared then (iface_of p i).shared else (iface_of p i).addr

-- the shared address of the interface, or its own, is placed at the network, in a view
pub record IsIfaceShadowed (p : Policy) (view : List ℕ) (i : ℕ) (shared : Bool) (m : ℕ) : Type 0 where
  pub address : ℕ
  pub its : address_at p i shared ≡ Some address
  pub shadowed : IsShadowed p view (net_at p i) (one_address address) m

-- the interface is the next one of a hop, and has no address
abbrev pub is_bare_next : Policy → ℕ → NextHop → Bool
is_bare_next p i h = same_number h.next (Some i) && lacks_address p h

abbrev pub has_hop : List NextHop → NextHop → Bool
has_hop hops h = list_any (same_next_hop h) hops

-- The policy has the fault.
abbrev pub HasFault : Meaning → FaultCase → Type 0
HasFault m (AreaSplit k i) = (k < length m.site.policy.areas) × IsTrue (is_split m.site m.areas k i)
HasFault m (NatConflict tag z) = (z < zone_count m.site) × IsConflicting m.site tag z
HasFault m (NatTwice n z tag other) = (z < zone_count m.site) × IsTrue (is_translated_twice m.site m.views n z tag other)
HasFault m (NatInside n tag) = (n < length m.site.policy.nets) × IsTrue (is_translated_inside m.site m.views n tag)
HasFault m LimitViews = most_views < view_count m.views
HasFault m (SamePrefix n other at) =
    (other < length m.site.policy.nets) × IsTrue (is_there m.site at) × IsTrue (is_same_prefix m.site.policy (view_at m.views at) n other)
HasFault m (HostShadowed h other at) =
    (h < length m.site.policy.hosts) × IsTrue (is_there m.site at)
    × IsShadowed m.site.policy (view_at m.views at) (host_of m.site.policy h).net (host_of m.site.policy h).range other
HasFault m (IfaceShadowed i shared other at) =
    (i < length m.site.policy.ifaces) × IsTrue (is_there m.site at) × IsIfaceShadowed m.site.policy (view_at m.views at) i shared other
HasFault m (ManagedEnd k i) = (k < length m.site.policy.services) × IsTrue (has_managed_end m.site m.areas (slice_index_or m.site.policy.services k no_service) i)
HasFault m LimitPermits = most_items < permit_count m.site m.areas
HasFault m (NoPath u w) = IsTrue (list_any (λ q. (q.src.net == u) && (q.dst.net == w) && has_no_path m.site q) (permits_in m))
HasFault m (HiddenEnd k u w n z) =
    (k < length (permits_in m)) × (z < zone_count m.site) × IsTrue (is_hidden_end m.site m.views (permit_at (permits_in m) k) n z)
    × ((permit_at (permits_in m) k).src.net ≡ u) × ((permit_at (permits_in m) k).dst.net ≡ w)
HasFault m LimitLines = most_items < line_count m.site m.views (permits_in m)
HasFault m LimitRoutes = most_items < route_count m.site (permits_in m)
HasFault m (NoHopAddress r n i) =
    (n < length m.site.policy.nets) × IsTrue (is_static m.site.policy r && list_any (is_bare_next m.site.policy i) (hops_of m.site (permits_in m) r n))
HasFault m (AmbiguousHop r n first second) =
    (n < length m.site.policy.nets)
    × IsTrue (is_static m.site.policy r && has_hop (hops_of m.site (permits_in m) r n) first && has_hop (hops_of m.site (permits_in m) r n) second
    && not (same_hop (hop_of m.site.policy first) (hop_of m.site.policy second)) && is_lower (hop_order first) (hop_order second))

-- It has this fault, and none that comes before it.
pub record IsFirstFault (m : Meaning) (f : FaultCase) : Type 0 where
  pub there : HasFault m f
  pub first : (g : FaultCase) → HasFault m g → IsTrue (not (is_lower (order_of (permits_in m) g) (order_of (permits_in m) f)))

-- It has none of these faults.
abbrev pub IsAccepted : Meaning → Type 0
IsAccepted m = (f : FaultCase) → HasFault m f → ⊥
