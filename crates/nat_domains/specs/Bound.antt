-- Tags that interfaces bind.
use Rattle.std.specs.Prelude.{◌≡◌, ℕ, ◌<◌, Bool, true, List, length}
use Rattle.policy_model.specs.Lists.{has}
use Rattle.policy_model.specs.Policy.{Policy}
use Rattle.policy_model.specs.Tags.{binds}
use Rattle.nat_domains.specs.Marks.{is_marked}
use Rattle.nat_domains.specs.Spreading.{Grows}

-- The tags were marked, and no mark was lost.
pub record HasMarked (tags : List ℕ) (marks new : List Bool) : Type 0 where
  pub each : length new ≡ length marks
  pub grown : Grows marks new
  pub marked : (tag : ℕ) → has tags tag ≡ true → is_marked new tag ≡ true

-- Each tag that one of the first interfaces binds is marked.
pub record AreBoundMarked (p : Policy) (count : ℕ) (marks : List Bool) : Type 0 where
  pub marked : (i tag : ℕ) → i < count → binds p i tag ≡ true → is_marked marks tag ≡ true
