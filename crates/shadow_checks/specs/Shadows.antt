-- The least network at which addresses lie that aren't its own.
use Rattle.std.specs.Prelude.{◌≡◌, ◌≢◌, ℕ, ◌<◌, ◌≤◌, List, length, slice_index_or, Some}
use Rattle.spoc_base.specs.Address.{Interval}
use Rattle.policy_model.specs.Policy.{Policy}
use Rattle.policy_model.specs.Places.{place}
use Rattle.policy_model.specs.Faults.{IsShadowed}
use Rattle.shadow_checks.specs.Lying.{HasOneAt}

-- no own address of network n in the range lies at another network
abbrev pub HasNoShadow : Policy → List ℕ → ℕ → Interval → Type 0
HasNoShadow p view n range = (m : ℕ) → IsShadowed p view n range m → ⊥

-- The network is the least one at which an own address of network n in the range lies.
pub record IsLeastShadow (p : Policy) (view : List ℕ) (n : ℕ) (range : Interval) (m : ℕ) : Type 0 where
  pub there : IsShadowed p view n range m
  pub least : (k : ℕ) → IsShadowed p view n range k → m ≤ k

-- the network isn't n, and some address of the range, which is one of the view, is placed at it
pub record IsOther (p : Policy) (view : List ℕ) (n : ℕ) (range : Interval) (m : ℕ) : Type 0 where
  pub differs : m ≢ n
  pub here : HasOneAt p view range m

-- the address of the view is placed at the network, which isn't n
pub record IsOtherPlace (p : Policy) (view : List ℕ) (n a m : ℕ) : Type 0 where
  pub differs : m ≢ n
  pub placed : place p view a ≡ Some m

-- no number at a place before the bound has the property
abbrev pub NoneBefore : (ℕ → Type 0) → List ℕ → ℕ → Type 0
NoneBefore P xs bound = (k : ℕ) → k < bound → P (slice_index_or xs k 0) → ⊥

-- The number is the first one of the list that has the property.
pub record IsFirstOf (P : ℕ → Type 0) (xs : List ℕ) (x : ℕ) : Type 0 where
  pub at : ℕ
  pub below : at < length xs
  pub is : slice_index_or xs at 0 ≡ x
  pub has : P x
  pub before : NoneBefore P xs at
