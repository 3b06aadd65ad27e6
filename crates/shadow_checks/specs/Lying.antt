-- Addresses of a range that lie at a network in a view.
use Rattle.std.specs.Prelude.{◌≡◌, ℕ, ◌<◌, ◌≤◌, List, length, Some, IsTrue}
use Rattle.spoc_base.specs.Address.{Interval, within}
use Rattle.policy_model.specs.Policy.{Policy, net_of}
use Rattle.policy_model.specs.Places.{place}
use Rattle.policy_laws.specs.Secured.{IsNet}

-- prefixes are prefixes, and translations keep their lengths
abbrev pub HaveNets : Policy → Type 0
HaveNets p = (n : ℕ) → n < length p.nets → IsNet (net_of p n)

-- some address of the range is placed at the network
pub record HasOneAt (p : Policy) (view : List ℕ) (range : Interval) (m : ℕ) : Type 0 where
  pub address : ℕ
  pub inside : IsTrue (within range address)
  pub placed : place p view address ≡ Some m

-- no address from one up to before another is placed at the network
abbrev pub NoneBetween : Policy → List ℕ → ℕ → ℕ → ℕ → Type 0
NoneBetween p view m from to = (a : ℕ) → from ≤ a → a < to → place p view a ≡ Some m → ⊥

-- the addresses of both ranges are those from the start up to before the end
pub record IsCommon (one other : Interval) (start end : ℕ) : Type 0 where
  pub both : (a : ℕ) → start ≤ a → a < end → IsTrue (within one a) × IsTrue (within other a)
  pub all : (a : ℕ) → IsTrue (within one a) → IsTrue (within other a) → (start ≤ a) × (a < end)
