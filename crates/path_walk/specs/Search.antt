-- What a search for allowed walks goes by: paths that such walks may begin with.
use Rattle.std.specs.Prelude.{ℕ, zero, suc, ◌+◌, ◌-◌, ◌*◌, ◌≤◌, Bool, not, ◌&&◌, ◌==◌, List, [], ◌∷◌, ◌++◌, length, map, filter, flat_map, take, IsTrue}
use Rattle.std.specs.List.{list_all}
use Rattle.policy_model.specs.Lists.{has, are_distinct, lists_up_to}
use Rattle.policy_model.specs.Policy.{router_at, is_managed, all_ifaces, managed_routers}
use Rattle.policy_model.specs.Paths.{Crossing, leads, places_on, routers_on}
use Rattle.topology.specs.Kept.{ifaces_of}
use Rattle.policy_model.specs.Zones.{Site, zone_at}
use Rattle.policy_model.specs.Walks.{is_crossing, is_unrestricted, is_allowed_walk, all_crossings}

-- the zone to which a path leads
abbrev pub end_of : Site → ℕ → List Crossing → ℕ
end_of s from [] = from
end_of s from (c ∷ path) = end_of s (zone_at s c.leave) path

-- whether nothing in the path itself keeps an allowed walk from beginning with it
abbrev pub may_begin : Site → ℕ → List Crossing → Bool
may_begin s from path =
    list_all (is_crossing s) path && leads (zone_at s) from path (end_of s from path)
    && are_distinct (places_on (zone_at s) from path) && are_distinct (routers_on s.policy path) && is_unrestricted s.policy path

-- whether the crossing goes on where the path ends, to a zone and through a router that it has not passed
abbrev pub goes_on : Site → ℕ → List Crossing → Crossing → Bool
goes_on s from path c =
    is_crossing s c && (zone_at s c.enter == end_of s from path) && not (has (places_on (zone_at s) from path) (zone_at s c.leave))
    && not (has (routers_on s.policy path) (router_at s.policy c.enter)) && is_unrestricted s.policy (path ++ c ∷ [])

-- how many crossings a walk has at most
abbrev pub most_of : Site → ℕ
most_of s = length (managed_routers s.policy)

-- the allowed walks that begin with a path and have at most n crossings more
abbrev pub walks_on : Site → ℕ → ℕ → ℕ → List Crossing → List (List Crossing)
walks_on s from to n path = filter (is_allowed_walk s from to) (map (λ more. path ++ more) (lists_up_to n (all_crossings s)))

-- the interfaces of managed routers in a zone, by number
abbrev pub doors_in : Site → ℕ → List ℕ
doors_in s z = filter (λ i. is_managed s.policy (router_at s.policy i) && (zone_at s i == z)) (all_ifaces s.policy)

abbrev pub step_of : ℕ → ℕ → Crossing
step_of e l = record { enter = e; leave = l }

-- the crossings by which a path goes on at an interface
abbrev pub by_door : Site → ℕ → List Crossing → ℕ → List Crossing
by_door s from path e = filter (goes_on s from path) (map (step_of e) (ifaces_of s.policy (router_at s.policy e)))

-- a crossing by which the first crossings of a path go on, so many of them
pub record Branch : Type 0 where
  pub depth : ℕ
  pub crossing : Crossing

abbrev pub branched : List Crossing → Branch → List Crossing
branched path b = take b.depth path ++ b.crossing ∷ []

-- the branches by which a whole path goes on
abbrev pub branches_of : Site → ℕ → List Crossing → List Branch
branches_of s from path = map (λ c. record { depth = length path; crossing = c }) (filter (goes_on s from path) (all_crossings s))

-- the branches by which a whole path goes on at an interface
abbrev pub branches_at : Site → ℕ → List Crossing → ℕ → List Branch
branches_at s from path e = map (λ c. record { depth = length path; crossing = c }) (by_door s from path e)

-- the walks that are still to be found: those of each branch, in turn
abbrev pub to_come : Site → ℕ → ℕ → List Crossing → List Branch → List (List Crossing)
to_come s from to path branches = flat_map (λ b. walks_on s from to (most_of s - (b.depth + 1)) (branched path b)) branches

-- the allowed walks that begin with a path and then enter at an interface
abbrev pub walks_into : Site → ℕ → ℕ → List Crossing → ℕ → List (List Crossing)
walks_into s from to path next = flat_map (λ c. walks_on s from to (most_of s - (length path + 1)) (path ++ c ∷ [])) (by_door s from path next)

-- With each branch a walk may begin, and none is deeper than the one before it.
abbrev pub AreOpen : Site → ℕ → List Crossing → ℕ → List Branch → Type 0
AreOpen s from path limit [] = Unit {0}
AreOpen s from path limit (b ∷ branches) = (b.depth ≤ limit) × IsTrue (may_begin s from (branched path b)) × AreOpen s from path b.depth branches

-- the paths in a tree of this height, where each goes on in x ways
abbrev pub size : ℕ → ℕ → ℕ
size x zero = 1
size x (suc n) = 1 + x * size x n

-- how much is left to search at most, where paths have m crossings at most and each goes on in x ways
abbrev pub weight : ℕ → ℕ → List Branch → ℕ
weight m x [] = 0
weight m x (b ∷ branches) = size x (m - b.depth) + weight m x branches
