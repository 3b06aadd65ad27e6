-- The next hops of static routers, as they are gathered from marks.
use Rattle.std.specs.Prelude.{ℕ, ◌==◌, List, [], ◌∷◌, ◌++◌, map, flat_map, Option, if◌then◌else◌}
use Rattle.std.specs.declared.cmp.Ordering.{Ordering}
use Rattle.std.specs.Ordering.{ordering_then, nat_cmp}
use Rattle.std.specs.Option.{option_cmp}
use Rattle.std.specs.BTreeSet.{insert_key}
use Rattle.policy_model.specs.Policy.{Policy, router_at}
use Rattle.policy_model.specs.Paths.{Crossing}
use Rattle.policy_model.specs.Zones.{Site, zone_of, zone_at}
use Rattle.policy_model.specs.Marks.{Link, marked_crossings, marked_links}
use Rattle.policy_model.specs.Routes.{NextHop, is_static}
use Rattle.route_laws.specs.Marked.{last_hops, hops_over}

-- a router and a network, and a next hop there: its leaving interface, and the next one
abbrev pub FoundHop : Type 0
FoundHop = (ℕ × ℕ) × (ℕ × Option ℕ)

abbrev pub found_of : ℕ → ℕ → NextHop → FoundHop
found_of r v h = ((r, v), (h.out, h.next))

-- by the router, the network, the leaving interface, and the next one, where a direct hop comes first
abbrev pub found_order : FoundHop → FoundHop → Ordering
found_order x y = ordering_then (ordering_then (nat_cmp x.0.0 y.0.0) (nat_cmp x.0.1 y.0.1)) (ordering_then (nat_cmp x.1.0 y.1.0) (option_cmp nat_cmp x.1.1 y.1.1))

-- the keys of a set with more of them, each once
abbrev pub with_keys : {K : Type 0} → (K → K → Ordering) → List K → List K → List K
with_keys order keys [] = keys
with_keys order keys (e ∷ es) = with_keys order (insert_key order keys e) es

abbrev pub with_found : List FoundHop → List FoundHop → List FoundHop
with_found keys es = with_keys found_order keys es

-- the hops of one router to network v, where the router is static
abbrev pub found_at : Policy → ℕ → ℕ → List NextHop → List FoundHop
found_at p r v hops = if is_static p r then map (found_of r v) hops else []

-- those by a marked crossing, which is the last one where it leaves into v's zone
abbrev pub crossing_found : Site → ℕ → Crossing → List FoundHop
crossing_found s v c = if zone_at s c.leave == zone_of s v then found_at s.policy (router_at s.policy c.leave) v (last_hops s.policy v c.leave) else []

-- those by a marked link
abbrev pub link_found : Site → ℕ → Link → List FoundHop
link_found s v l = found_at s.policy (router_at s.policy l.leave) v (hops_over s.policy l)

-- those to network v by all marks of the walks that start in a zone
abbrev pub way_found : Site → ℕ → ℕ → List FoundHop
way_found s from v = flat_map (crossing_found s v) (marked_crossings s from (zone_of s v)) ++ flat_map (link_found s v) (marked_links s from (zone_of s v))
