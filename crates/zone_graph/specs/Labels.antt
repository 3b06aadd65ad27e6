-- Zones' numbers, given to networks one by one.
use Rattle.std.specs.Prelude.{◌≡◌, ℕ, ◌<◌, List, [], ◌∷◌, ◌++◌, length, slice_index}
use Rattle.policy_model.specs.Policy.{Policy}
use Rattle.policy_model.specs.Zones.{AreJoined}

-- The first networks have their zones' numbers, count of them. Each has that of the network to which it points, no two zones have one, and lower
-- numbers are those of lower networks.
pub record AreLabels (p : Policy) (parents zones : List ℕ) (count : ℕ) : Type 0 where
  pub below : (k : ℕ) → k < length zones → slice_index zones k < count
  pub follows : (k : ℕ) → k < length zones → slice_index zones (slice_index parents k) ≡ slice_index zones k
  pub alike : (k m : ℕ) → k < length zones → m < length zones → slice_index zones k ≡ slice_index zones m → AreJoined p k m
  pub used : (z : ℕ) → z < count → (m : ℕ) × (m < length zones) × (slice_index zones m ≡ z)
  pub numbered : (k z : ℕ) → k < length zones → z < slice_index zones k → (m : ℕ) × (m < k) × (slice_index zones m ≡ z)

-- One label more, and then the count.
abbrev pub IsLabelled : Policy → List ℕ → List ℕ → ℕ → ℕ → Type 0
IsLabelled p parents zones zone count = (new : List ℕ) → new ≡ zones ++ zone ∷ [] → AreLabels p parents new count

-- The zones' numbers are those below the count.
pub record AreNumbers (zones : List ℕ) (count : ℕ) : Type 0 where
  pub below : (n : ℕ) → n < length zones → slice_index zones n < count
  pub used : (z : ℕ) → z < count → (n : ℕ) × (n < length zones) × (slice_index zones n ≡ z)
