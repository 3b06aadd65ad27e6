-- The tables of a policy as functions: the zone of each network, the tags in force in each zone, the zones of each area. Where policy_model says by a
-- relation what a table is, this says how to find it: a path is looked for among all paths with as many crossings as there are interfaces, or fewer.
use Rattle.std.specs.Prelude.{ℕ, suc, Bool, ◌&&◌, ◌==◌, max, fold, List, [], ◌∷◌, length, map, filter, flat_map, find, count_by, unwrap_or}
use Rattle.std.specs.List.{list_any, list_all}
use Rattle.policy_model.specs.Lists.{numbers_below, lists_up_to}
use Rattle.policy_model.specs.Policy.{Policy, iface_of, area_of, net_at, all_nets, all_ifaces, all_routers}
use Rattle.policy_model.specs.Paths.{Crossing, leads, all_steps, crosses_unmanaged}
use Rattle.policy_model.specs.Zones.{Site, zone_at, zone_count}
use Rattle.policy_model.specs.Tags.{Views, binds, keeps_tag, inner_tags}
use Rattle.policy_model.specs.Objects.{inside_borders, start_of}
use Rattle.policy_model.specs.Headline.{Meaning}

-- ---- paths

-- The crossings are allowed, and lead from one place to the other.
abbrev pub is_path : (Crossing → Bool) → (ℕ → ℕ) → ℕ → ℕ → List Crossing → Bool
is_path allowed at from to path = list_all allowed path && leads at from path to

-- whether a path leads there
abbrev pub reaches : Policy → (Crossing → Bool) → (ℕ → ℕ) → ℕ → ℕ → Bool
reaches p allowed at from to = list_any (is_path allowed at from to) (lists_up_to (length p.ifaces) (all_steps p))

-- the least number that is greater than all these
abbrev pub number_past : List ℕ → ℕ
number_past numbers = fold max 0 (map suc numbers)

-- ---- zones

-- A chain of unmanaged routers joins the networks.
abbrev pub are_joined : Policy → ℕ → ℕ → Bool
are_joined p n m = reaches p (crosses_unmanaged p) (net_at p) n m

-- the first network that is joined with this one: itself where no lower one is
abbrev pub least_joined : Policy → ℕ → ℕ
least_joined p n = unwrap_or (find (λ m. are_joined p m n) (numbers_below n)) n

-- the network is the least one of its zone
abbrev pub opens_zone : Policy → ℕ → Bool
opens_zone p n = least_joined p n == n

-- the number of a network's zone: how many zones are opened by networks below its least one
abbrev pub zone_number : Policy → ℕ → ℕ
zone_number p n = count_by (opens_zone p) (numbers_below (least_joined p n))

-- the table of each network's zone
abbrev pub zones_of : Policy → List ℕ
zones_of p = map (zone_number p) (all_nets p)

-- a policy with its zones
abbrev pub site_of_policy : Policy → Site
site_of_policy p = record { policy = p; zones = zones_of p }

-- ---- views

-- The tag is in force in the zone: a chain leads there from an interface that binds it.
abbrev pub is_in_force : Site → ℕ → ℕ → Bool
is_in_force s z tag = list_any (λ i. binds s.policy i tag && reaches s.policy (keeps_tag s.policy tag) (zone_at s) (zone_at s i) z) (all_ifaces s.policy)

-- all tags that an interface binds
abbrev pub bound_tags : Policy → List ℕ
bound_tags p = flat_map (λ i. (iface_of p i).binds) (all_ifaces p)

-- the tags in force in a zone, ascending
abbrev pub tags_in_force : Site → ℕ → List ℕ
tags_in_force s z = filter (is_in_force s z) (numbers_below (number_past (bound_tags s.policy)))

-- the view of each zone
abbrev pub zone_views : Site → List (List ℕ)
zone_views s = map (tags_in_force s) (numbers_below (zone_count s))

-- the view of each router: its inner tags, by the views of the zones
abbrev pub router_views : Site → List (List ℕ)
router_views s = map (inner_tags s (record { zones = zone_views s; routers = [] })) (all_routers s.policy)

abbrev pub views_of : Site → Views
views_of s = record { zones = zone_views s; routers = router_views s }

-- ---- areas

-- The zone is in the area: managed routers lead there from the area's start, none through one of its borders.
abbrev pub is_in_area : Site → ℕ → ℕ → Bool
is_in_area s k z = reaches s.policy (inside_borders s.policy (area_of s.policy k).borders) (zone_at s) (start_of s k) z

-- the zones of an area, ascending
abbrev pub zones_in_area : Site → ℕ → List ℕ
zones_in_area s k = filter (is_in_area s k) (numbers_below (number_past (start_of s k ∷ map (zone_at s) (all_ifaces s.policy))))

-- the table of the areas' zones
abbrev pub areas_of : Site → List (List ℕ)
areas_of s = map (zones_in_area s) (numbers_below (length s.policy.areas))

-- ---- all of them

-- what a policy means: its zones, its views and its areas
abbrev pub meaning_of : Policy → Meaning
meaning_of p = record { site = site_of_policy p; views = views_of (site_of_policy p); areas = areas_of (site_of_policy p) }
