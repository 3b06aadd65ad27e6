-- The first fault of a policy as functions of its meaning, one for each row of faults whose test computes. Where policy_model says by a relation which
-- fault counts, this says how to find it: the things that a fault may name are listed in the order in which faults are compared, and the first that
-- passes the test is taken.
use Rattle.std.specs.Prelude.{◌≡◌, ℕ, ◌<◌, ◌↔◌, Bool, true, false, not, ◌&&◌, ◌==◌, nat_lt, if◌then◌else◌, List, [], ◌∷◌, ◌++◌, length, map, fold, find, slice_index_or, Option, Some, None, option_map, is_some, IsTrue}
use Rattle.std.specs.Option.{option_or}
use Rattle.std.specs.List.{list_any, list_all}
use Rattle.policy_model.specs.Lists.{numbers_below, pairs_of}
use Rattle.policy_model.specs.Policy.{Policy, Service, net_of, router_at, all_nets, all_routers, all_ifaces, all_tags}
use Rattle.policy_model.specs.Zones.{Site, zone_at, zone_count}
use Rattle.policy_model.specs.Tags.{binds, keeps_tag}
use Rattle.policy_model.specs.Permits.{Permit, permit_count}
use Rattle.policy_model.specs.Blocks.{permit_at}
use Rattle.policy_model.specs.Faults.{is_split, is_translated_twice, is_translated_inside, view_count, is_same_prefix, has_managed_end, has_no_path, is_hidden_end}
use Rattle.policy_model.specs.FirstFault.{FaultCase, AreaSplit, NatConflict, NatTwice, NatInside, LimitViews, SamePrefix, ManagedEnd, LimitPermits, NoPath, HiddenEnd, LimitLines, LimitRoutes, ViewPlace, AtZone, AtRouter, view_at, most_views, most_items, line_count, route_count, no_service}
use Rattle.policy_model.specs.Headline.{Meaning, permits_in}
use Rattle.meaning_laws.specs.Tables.{reaches, is_in_force}
use Rattle.topology.specs.First.{HasNone, IsFirstWithin}

-- ---- what a function of this page is to find

-- What is found is the first fault of these rows, and nothing where they have none.
pub record IsFirstCase (m : Meaning) (lowest highest : ℕ) (found : Option FaultCase) : Type 0 where
  pub none : HasNone m lowest highest ↔ (found ≡ None)
  pub first : (f : FaultCase) → IsFirstWithin m lowest highest f ↔ (found ≡ Some f)

-- ---- words

-- the first item that passes, as a fault
abbrev pub first_case : {A : Type 0} → (A → FaultCase) → (A → Bool) → List A → Option FaultCase
first_case as_fault test items = option_map as_fault (find test items)

-- the fault, where it is there
abbrev pub case_if : Bool → FaultCase → Option FaultCase
case_if there f = if there then Some f else None

-- the first of these that is a fault
abbrev pub first_of : List (Option FaultCase) → Option FaultCase
first_of cases = fold option_or None cases

abbrev pub all_zones : Site → List ℕ
all_zones s = numbers_below (zone_count s)

abbrev pub all_areas : Policy → List ℕ
all_areas p = numbers_below (length p.areas)

abbrev pub all_services : Policy → List ℕ
all_services p = numbers_below (length p.services)

-- where views are, the zones' before the routers'
abbrev pub all_places : Site → List ViewPlace
all_places s = map AtZone (all_zones s) ++ map AtRouter (all_routers s.policy)

-- ---- areas

-- an area and a border of it whose zone isn't in the area
abbrev pub split_case : Meaning → Option FaultCase
split_case m = first_case (λ e. AreaSplit e.0 e.1) (λ e. is_split m.site m.areas e.0 e.1) (pairs_of (all_areas m.site.policy) (all_ifaces m.site.policy))

-- ---- translation

-- The second interface binds the tag, and the first one, of the same router, doesn't.
abbrev pub is_other_side : Policy → ℕ → ℕ → ℕ → Bool
is_other_side p tag i binder = (router_at p i == router_at p binder) && not (binds p i tag) && binds p binder tag

-- The tag must not be in force in the zone: a chain leads there from the other side of a router that binds it.
abbrev pub is_barred : Site → ℕ → ℕ → Bool
is_barred s z tag =
    list_any (λ e. is_other_side s.policy tag e.0 e.1 && reaches s.policy (keeps_tag s.policy tag) (zone_at s) (zone_at s e.0) z)
    (pairs_of (all_ifaces s.policy) (all_ifaces s.policy))

abbrev pub is_conflicting : Site → ℕ → ℕ → Bool
is_conflicting s z tag = is_in_force s z tag && is_barred s z tag

-- a zone and a tag that is in force there and must not be
abbrev pub conflict_case : Meaning → Option FaultCase
conflict_case m = first_case (λ e. NatConflict e.1 e.0) (λ e. is_conflicting m.site e.0 e.1) (pairs_of (all_zones m.site) (all_tags m.site.policy))

-- a zone and a network, and two tags of the network that are in force there
abbrev pub twice_case : Meaning → Option FaultCase
twice_case m =
    first_case (λ e. NatTwice e.0.1 e.0.0 e.1.0 e.1.1) (λ e. is_translated_twice m.site m.views e.0.1 e.0.0 e.1.0 e.1.1)
    (pairs_of (pairs_of (all_zones m.site) (all_nets m.site.policy)) (pairs_of (all_tags m.site.policy) (all_tags m.site.policy)))

-- a network and a tag of it that is in force in its own zone
abbrev pub inside_case : Meaning → Option FaultCase
inside_case m = first_case (λ e. NatInside e.0 e.1) (λ e. is_translated_inside m.site m.views e.0 e.1) (pairs_of (all_nets m.site.policy) (all_tags m.site.policy))

-- too many views differ
abbrev pub views_case : Meaning → Option FaultCase
views_case m = case_if (nat_lt most_views (view_count m.views)) LimitViews

-- a place of a view, and two networks that have one prefix there
abbrev pub same_case : Meaning → Option FaultCase
same_case m =
    first_case (λ e. SamePrefix e.1.0 e.1.1 e.0) (λ e. is_same_prefix m.site.policy (view_at m.views e.0) e.1.0 e.1.1)
    (pairs_of (all_places m.site) (pairs_of (all_nets m.site.policy) (all_nets m.site.policy)))

-- ---- services

abbrev pub service_of : Policy → ℕ → Service
service_of p k = slice_index_or p.services k no_service

-- a service and a managed router's interface that is an end of its rules
abbrev pub managed_case : Meaning → Option FaultCase
managed_case m =
    first_case (λ e. ManagedEnd e.0 e.1) (λ e. has_managed_end m.site m.areas (service_of m.site.policy e.0) e.1)
    (pairs_of (all_services m.site.policy) (all_ifaces m.site.policy))

-- too many listed permits, listed denials or expanded permits
abbrev pub permits_case : Meaning → Option FaultCase
permits_case m = case_if (nat_lt most_items (permit_count m.site m.areas)) LimitPermits

-- ---- walks

-- a permit between the networks that no allowed walk carries
abbrev pub lacks_path : Meaning → ℕ → ℕ → Bool
lacks_path m u w = list_any (λ q. (q.src.net == u) && (q.dst.net == w) && has_no_path m.site q) (permits_in m)

-- two networks with such a permit
abbrev pub path_case : Meaning → Option FaultCase
path_case m = first_case (λ e. NoPath e.0 e.1) (λ e. lacks_path m e.0 e.1) (pairs_of (all_nets m.site.policy) (all_nets m.site.policy))

-- the network of a permit's source, or of its destination
abbrev pub end_net : Permit → Bool → ℕ
end_net q is_dst = if is_dst then q.dst.net else q.src.net

abbrev pub is_end_hidden : Meaning → ℕ → ℕ → Bool → Bool
is_end_hidden m k z is_dst = is_hidden_end m.site m.views (permit_at (permits_in m) k) (end_net (permit_at (permits_in m) k) is_dst) z

-- the fault that the end of the k-th permit is hidden in a zone
abbrev pub hidden_fault : List Permit → ℕ → Bool → ℕ → FaultCase
hidden_fault permits k is_dst z = HiddenEnd k (permit_at permits k).src.net (permit_at permits k).dst.net (end_net (permit_at permits k) is_dst) z

-- a permit, and a zone of an allowed walk of it in which its source is hidden, or its destination
abbrev pub hidden_case : Meaning → Option FaultCase
hidden_case m =
    first_case (λ e. hidden_fault (permits_in m) e.0.0 e.1 e.0.1) (λ e. is_end_hidden m e.0.0 e.0.1 e.1)
    (pairs_of (pairs_of (numbers_below (length (permits_in m))) (all_zones m.site)) (false ∷ true ∷ []))

-- too many lines before they are optimised
abbrev pub lines_case : Meaning → Option FaultCase
lines_case m = case_if (nat_lt most_items (line_count m.site m.views (permits_in m))) LimitLines

-- too many networks to which a static router has a hop that isn't direct
abbrev pub routes_case : Meaning → Option FaultCase
routes_case m = case_if (nat_lt most_items (route_count m.site (permits_in m))) LimitRoutes
