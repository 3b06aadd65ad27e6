-- When a path leads nowhere: marks on zones and routers that show it.
use Rattle.std.specs.Prelude.{◌≡◌, ℕ, Bool, true, false, not, ◌&&◌, ◌||◌, ◌⊎◌, List, [], ◌∷◌, ◌++◌, slice_index_or}
use Rattle.std.specs.List.{list_all}
use Rattle.policy_model.specs.Lists.{has}
use Rattle.policy_model.specs.Policy.{router_at, all_ifaces}
use Rattle.policy_model.specs.Paths.{Crossing, places_on, routers_on}
use Rattle.policy_model.specs.Zones.{Site, zone_at}
use Rattle.path_walk.specs.Search.{Branch, branches_of, walks_on}

abbrev pub is_marked : List Bool → ℕ → Bool
is_marked marks n = slice_index_or marks n false

-- Marks don't end at the interface: its router is on the path, or it is marked where the interface's zone is, and where it is marked the zone is marked or
-- on the path.
abbrev pub keeps_marks : Site → ℕ → List Crossing → List Bool → List Bool → ℕ → Bool
keeps_marks s from path zones routers i =
    has (routers_on s.policy path) (router_at s.policy i)
    || ((not (is_marked zones (zone_at s i)) || is_marked routers (router_at s.policy i))
    && (not (is_marked routers (router_at s.policy i)) || is_marked zones (zone_at s i) || has (places_on (zone_at s) from path) (zone_at s i)))

-- nor at any interface
abbrev pub keep_marks : Site → ℕ → List Crossing → List Bool → List Bool → Bool
keep_marks s from path zones routers = list_all (keeps_marks s from path zones routers) (all_ifaces s.policy)

-- no allowed walk to the zone begins with the path
abbrev pub LeadsNowhere : Site → ℕ → ℕ → List Crossing → Type 0
LeadsNowhere s from to path = (n : ℕ) → walks_on s from to n path ≡ []

-- nor to any of some zones
abbrev pub LeadsToNone : Site → ℕ → List ℕ → List Crossing → Type 0
LeadsToNone s from wanted path = (to : ℕ) → has wanted to ≡ true → LeadsNowhere s from to path

-- What is open where the path may go on to some zones: its branches come in front of what was open, unless it leads to none of them.
abbrev pub AreOpened : Site → ℕ → List ℕ → List Crossing → List Branch → List Branch → Type 0
AreOpened s from wanted path old new = (new ≡ branches_of s from path ++ old) ⊎ (LeadsToNone s from wanted path × (new ≡ old))

-- What is open after a step: only what was, where the path is there.
abbrev pub AreLeft : Site → ℕ → ℕ → Bool → List Crossing → List Branch → List Branch → Type 0
AreLeft s from to true path old new = new ≡ old
AreLeft s from to false path old new = AreOpened s from (to ∷ []) path old new
