-- One step of a search.
use Rattle.std.specs.Prelude.{◌≡◌, ℕ, Bool, List, [], ◌∷◌, length, if◌then◌else◌}
use Rattle.policy_model.specs.Paths.{Crossing}
use Rattle.policy_model.specs.Zones.{Site}
use Rattle.path_walk.specs.Search.{Branch, AreOpen, to_come}

-- The search stands at the next walk, or there is none.
pub record IsNext (s : Site) (from to : ℕ) (old : List Crossing) (old_open : List Branch) (found : Bool) (new : List Crossing) (new_open : List Branch) : Type 0 where
  pub kept : AreOpen s from new (length new) new_open
  pub walks : to_come s from to old old_open ≡ (if found then new ∷ to_come s from to new new_open else [])
