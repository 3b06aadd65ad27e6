-- A search for the walks to several zones at once, step by step.
use Rattle.std.specs.Prelude.{◌≡◌, ◌≢◌, ℕ, ◌<◌, ◌==◌, true, if◌then◌else◌, Option, None, Some, List, [], ◌∷◌, ◌++◌, length, map}
use Rattle.spoc_base.specs.declared.ids.ZoneId.{ZoneId}
use Rattle.policy_model.specs.Lists.{has}
use Rattle.policy_model.specs.Paths.{Crossing}
use Rattle.policy_model.specs.Zones.{Site}
use Rattle.policy_model.specs.Walks.{all_crossings}
use Rattle.path_walk.specs.Search.{Branch, AreOpen, to_come, most_of, weight}

abbrev pub numbers_of : List ZoneId → List ℕ
numbers_of zones = map (λ z. z.0) zones

-- The search has gone on by a branch to the zone z. To each zone that is looked for, the walks that were still to come are the one found, where it ends there,
-- and those that still are.
pub record IsSwept (s : Site) (from : ℕ) (wanted : List ℕ) (old : List Crossing) (old_open : List Branch) (z : ℕ) (new : List Crossing) (new_open : List Branch) : Type 0 where
  pub kept : AreOpen s from new (length new) new_open
  pub walks : (to : ℕ) → has wanted to ≡ true → from ≢ to → to_come s from to old old_open ≡ (if z == to then new ∷ [] else []) ++ to_come s from to new new_open
  pub less : weight (most_of s) (length (all_crossings s)) new_open < weight (most_of s) (length (all_crossings s)) old_open

-- It has, or nothing was left to follow.
abbrev pub IsAdvanced : Site → ℕ → List ℕ → List Crossing → List Branch → Option ZoneId → List Crossing → List Branch → Type 0
IsAdvanced s from wanted old old_open None new new_open = old_open ≡ []
IsAdvanced s from wanted old old_open (Some z) new new_open = IsSwept s from wanted old old_open z.0 new new_open
