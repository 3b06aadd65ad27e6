-- The places that are the first ones of their tables.
use Rattle.std.specs.Prelude.{◌≡◌, ℕ, ◌<◌, ◌≤◌, Bool, true, false, List, length, map, slice_index_or, IsTrue}
use Rattle.std.specs.List.{All, AllPairs, Contains}
use Rattle.policy_model.specs.Tags.{Views}
use Rattle.nat_view.specs.Seen.{has_view}
use Rattle.nat_view.specs.Fails.{place_seen, place_number}
use Rattle.nat_view.specs.declared.fail.ViewAt.{ViewAt}

-- One of the listed places has the table of the k-th, and isn't behind it.
pub record HasFirstPlace (places listed : List ℕ) (k : ℕ) : Type 0 where
  pub place : ℕ
  pub there : Contains listed place
  pub before : place ≤ k
  pub same : slice_index_or places place 0 ≡ slice_index_or places k 0

-- The listed places are ascending, and each table is that of one of them that isn't behind.
pub record AreFirstPlaces (places listed : List ℕ) : Type 0 where
  pub order : AllPairs (λ a b. a < b) listed
  pub below : All (λ k. k < length places) listed
  pub each : (k : ℕ) → k < length places → HasFirstPlace places listed k

-- One of the listed places has the table.
pub record HasMet (places listed : List ℕ) (table : ℕ) : Type 0 where
  pub place : ℕ
  pub there : Contains listed place
  pub is : slice_index_or places place 0 ≡ table

-- The same of the places below a number. A flag is set where a listed place has the table.
pub record AreFirstBelow (places : List ℕ) (met : List Bool) (listed : List ℕ) (count : ℕ) : Type 0 where
  pub order : AllPairs (λ a b. a < b) listed
  pub below : All (λ k. k < count) listed
  pub flagged : (table : ℕ) → slice_index_or met table false ≡ true → HasMet places listed table
  pub each : (k : ℕ) → k < count → HasFirstPlace places listed k

-- The names are those of places that have views, and have these numbers.
pub record AreNamed (v : Views) (names : List ViewAt) (listed : List ℕ) : Type 0 where
  pub numbers : map (place_number (length v.zones)) names ≡ listed
  pub viewed : All (λ at. IsTrue (has_view v (place_seen at))) names
