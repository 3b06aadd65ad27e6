-- Paths that allowed walks begin with, wherever those start.
use Rattle.std.specs.Prelude.{ℕ, Bool, List, [], ◌∷◌}
use Rattle.std.specs.List.{list_any}
use Rattle.policy_model.specs.Paths.{Crossing, is_start_of}
use Rattle.policy_model.specs.Zones.{Site, zone_at}
use Rattle.policy_model.specs.Walks.{allowed_walks}
use Rattle.policy_model.specs.Delivery.{goes_into}

-- the zone in which a path starts that has these crossings and then enters at an interface
abbrev pub start_of : Site → List Crossing → ℕ → ℕ
start_of s [] next = zone_at s next
start_of s (c ∷ path) next = zone_at s c.enter

-- whether some allowed walk to the zone begins with these crossings, of which there are some
abbrev pub is_begun : Site → List Crossing → ℕ → Bool
is_begun s path to = list_any (is_start_of path) (allowed_walks s (start_of s path 0) to)

-- whether some allowed walk to the zone begins with these crossings and then enters at the interface
abbrev pub is_extended : Site → List Crossing → ℕ → ℕ → Bool
is_extended s path next to = list_any (goes_into path next) (allowed_walks s (start_of s path next) to)
