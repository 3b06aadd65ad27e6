-- The next hops of a router, read off the marks of walks.
use Rattle.std.specs.Prelude.{ℕ, ◌&&◌, ◌==◌, List, [], ◌∷◌, ◌++◌, filter, flat_map, None, if◌then◌else◌}
use Rattle.policy_model.specs.Policy.{Policy, net_at, router_at, all_nets}
use Rattle.policy_model.specs.Paths.{Crossing}
use Rattle.policy_model.specs.Zones.{Site, zone_of, zone_at}
use Rattle.policy_model.specs.Marks.{Link, marked_crossings, marked_links}
use Rattle.policy_model.specs.Permits.{Permit}
use Rattle.policy_model.specs.Routes.{NextHop, first_hops, hops_through, is_used}

-- the next hops to network v by the leaving interface of a walk's last crossing
abbrev pub last_hops : Policy → ℕ → ℕ → List NextHop
last_hops p v out = if net_at p out == v then record { out = out; next = None } ∷ [] else hops_through out (first_hops p (net_at p out) v)

-- the next hops to where a walk enters next: they are the same, whatever network it goes to
abbrev pub hops_over : Policy → Link → List NextHop
hops_over p l =
    if net_at p l.enter == net_at p l.leave then hops_through l.leave (l.enter ∷ []) else hops_through l.leave (first_hops p (net_at p l.leave) (net_at p l.enter))

-- those at router r to network v by a marked crossing, which is the last one where it leaves into v's zone
abbrev pub crossing_hops : Site → ℕ → ℕ → Crossing → List NextHop
crossing_hops s r v c = if (router_at s.policy c.leave == r) && (zone_at s c.leave == zone_of s v) then last_hops s.policy v c.leave else []

-- those at router r by a marked link
abbrev pub link_hops : Site → ℕ → Link → List NextHop
link_hops s r l = if router_at s.policy l.leave == r then hops_over s.policy l else []

-- those at router r to network v by the marks of the walks that start in a zone
abbrev pub hops_marked : Site → ℕ → ℕ → ℕ → List NextHop
hops_marked s r v from = flat_map (crossing_hops s r v) (marked_crossings s from (zone_of s v)) ++ flat_map (link_hops s r) (marked_links s from (zone_of s v))

-- and by those of all walks of traffic to v
abbrev pub marked_hops : Site → List Permit → ℕ → ℕ → List NextHop
marked_hops s permits r v = flat_map (λ u. hops_marked s r v (zone_of s u)) (filter (λ u. is_used permits u v) (all_nets s.policy))
