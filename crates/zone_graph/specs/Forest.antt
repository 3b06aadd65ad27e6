-- Networks that are joined step by step: each points to another of its zone, itself or a lower one.
use Rattle.std.specs.Prelude.{◌≡◌, ℕ, false, ◌+◌, ◌<◌, ◌≤◌, List, length, slice_index}
use Rattle.policy_model.specs.Policy.{Policy, net_at, is_managed}
use Rattle.policy_model.specs.Tags.{ifaces_of}
use Rattle.policy_model.specs.Zones.{AreJoined}

-- Each network points to one that is joined with it, and is no higher.
pub record IsForest (p : Policy) (parents : List ℕ) : Type 0 where
  pub each : length parents ≡ length p.nets
  pub down : (n : ℕ) → n < length parents → slice_index parents n ≤ n
  pub joined : (n : ℕ) → n < length parents → AreJoined p n (slice_index parents n)

-- The labels are alike wherever one network points to another.
abbrev pub Follows : (ℕ → ℕ) → List ℕ → Type 0
Follows label parents = (n : ℕ) → n < length parents → label (slice_index parents n) ≡ label n

-- Pointers tie the two networks: all labels that follow the pointers are alike at both.
abbrev pub AreTied : List ℕ → ℕ → ℕ → Type 0
AreTied parents n m = (label : ℕ → ℕ) → Follows label parents → label n ≡ label m

-- what was tied stays so
abbrev pub KeepsTies : List ℕ → List ℕ → Type 0
KeepsTies old new = (label : ℕ → ℕ) → Follows label new → Follows label old

-- The network points to itself.
pub record IsRoot (parents : List ℕ) (n : ℕ) : Type 0 where
  pub there : n < length parents
  pub itself : slice_index parents n ≡ n

-- The networks of neighbouring interfaces of the list are tied.
abbrev pub AllTied : Policy → List ℕ → List ℕ → Type 0
AllTied p parents ifs = (k : ℕ) → k + 1 < length ifs → AreTied parents (net_at p (slice_index ifs k)) (net_at p (slice_index ifs (k + 1)))

-- The networks of each unmanaged router below a number are tied.
abbrev pub TiesBelow : Policy → List ℕ → ℕ → Type 0
TiesBelow p parents count = (r : ℕ) → r < count → is_managed p r ≡ false → AllTied p parents (ifaces_of p r)

-- The networks of each unmanaged router are tied.
pub record AreAllTied (p : Policy) (parents : List ℕ) : Type 0 where
  pub below : TiesBelow p parents (length p.routers)
