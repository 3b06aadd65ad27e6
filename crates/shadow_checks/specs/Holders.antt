-- The first holder of addresses in a view that has one at another network: hosts come before interfaces, and own addresses before shared ones.
use Rattle.std.specs.Prelude.{◌≡◌, ℕ, ◌<◌, ◌≤◌, Bool, true, false, List, length}
use Rattle.policy_model.specs.Policy.{Policy, host_of}
use Rattle.policy_model.specs.FirstFault.{IsIfaceShadowed}
use Rattle.shadow_checks.specs.Shadows.{HasNoShadow, IsLeastShadow}
use Rattle.shadow_checks.specs.declared.here.Holder.{Holder}
use Rattle.shadow_checks.specs.declared.here.Holder.TheVariants.{Host, Iface}

abbrev pub HasNoHostShadow : Policy → List ℕ → ℕ → Type 0
HasNoHostShadow p view h = HasNoShadow p view (host_of p h).net (host_of p h).range

abbrev pub IsLeastHostShadow : Policy → List ℕ → ℕ → ℕ → Type 0
IsLeastHostShadow p view h m = IsLeastShadow p view (host_of p h).net (host_of p h).range m

-- the shared address of the interface, or its own, isn't at another network
abbrev pub HasNoIfaceShadow : Policy → List ℕ → ℕ → Bool → Type 0
HasNoIfaceShadow p view i shared = (m : ℕ) → IsIfaceShadowed p view i shared m → ⊥

-- The network is the least one at which this address of the interface lies.
pub record IsLeastIfaceShadow (p : Policy) (view : List ℕ) (i : ℕ) (shared : Bool) (m : ℕ) : Type 0 where
  pub there : IsIfaceShadowed p view i shared m
  pub least : (k : ℕ) → IsIfaceShadowed p view i shared k → m ≤ k

-- This address of the interface is the first one at another network, and the network is the least one.
pub record IsFirstAddress (p : Policy) (view : List ℕ) (i : ℕ) (shared : Bool) (m : ℕ) : Type 0 where
  pub least : IsLeastIfaceShadow p view i shared m
  pub before : shared ≡ true → HasNoIfaceShadow p view i false

-- no host below a number has an address at another network
abbrev pub HaveNoHosts : Policy → List ℕ → ℕ → Type 0
HaveNoHosts p view count = (h : ℕ) → h < count → HasNoHostShadow p view h

-- neither address of the interface is at another network
abbrev pub HasNoAddress : Policy → List ℕ → ℕ → Type 0
HasNoAddress p view i = (shared : Bool) → HasNoIfaceShadow p view i shared

-- no interface below a number has an address at another network
abbrev pub HaveNoIfaces : Policy → List ℕ → ℕ → Type 0
HaveNoIfaces p view count = (i : ℕ) → i < count → HasNoAddress p view i

-- The host is the first one that has such an address, and the network is the least one.
pub record IsFirstHost (p : Policy) (view : List ℕ) (h m : ℕ) : Type 0 where
  pub there : h < length p.hosts
  pub least : IsLeastHostShadow p view h m
  pub before : HaveNoHosts p view h

-- No host has such an address, and the interface, its address and the network are the first ones.
pub record IsFirstIface (p : Policy) (view : List ℕ) (i : ℕ) (shared : Bool) (m : ℕ) : Type 0 where
  pub there : i < length p.ifaces
  pub hosts : HaveNoHosts p view (length p.hosts)
  pub address : IsFirstAddress p view i shared m
  pub before : HaveNoIfaces p view i

abbrev pub IsFirstHere : Policy → List ℕ → Holder → ℕ → Type 0
IsFirstHere p view (Host h) m = IsFirstHost p view h.0 m
IsFirstHere p view (Iface i shared) m = IsFirstIface p view i.0 shared m

-- no address in the view lies at another network
pub record HasNoneHere (p : Policy) (view : List ℕ) : Type 0 where
  pub hosts : HaveNoHosts p view (length p.hosts)
  pub ifaces : HaveNoIfaces p view (length p.ifaces)
