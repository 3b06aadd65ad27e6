-- Places whose views stand for all.
use Rattle.std.specs.Prelude.{◌≡◌, ℕ, ◌<◌, ◌≤◌, List, [], length, slice_index_or}
use Rattle.std.specs.List.{All, AllPairs, Contains}

-- One of these places has the row of the k-th, and isn't behind it.
pub record HasFirst (rows : List (List ℕ)) (places : List ℕ) (k : ℕ) : Type 0 where
  pub place : ℕ
  pub listed : Contains places place
  pub before : place ≤ k
  pub same : slice_index_or rows place [] ≡ slice_index_or rows k []

-- The places are ascending, and each row is that of one of them that isn't behind it.
pub record AreFirsts (rows : List (List ℕ)) (places : List ℕ) : Type 0 where
  pub order : AllPairs (λ a b. a < b) places
  pub below : All (λ k. k < length rows) places
  pub each : (k : ℕ) → k < length rows → HasFirst rows places k
