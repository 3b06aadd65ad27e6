-- What the address of an interface says of the interface.
use Rattle.std.proofs.Common.{◌≡◌, ℕ, ◌<◌, Bool, true, false, List, length, sym, subst, ◌∙◌}
use Rattle.std.specs.Prelude.{Option, Some, None, IsTrue, MatchOption}
use Rattle.spoc_base.specs.Address.{prefix_holds}
use Rattle.spoc_base.specs.declared.ids.NetId.{NetId}
use Rattle.policy_model.specs.Policy.{Policy, net_of, net_at}
use Rattle.policy_model.specs.Permits.{one_address}
use Rattle.policy_model.specs.Faults.{IsShadowed}
use Rattle.policy_model.specs.FirstFault.{IsIfaceShadowed, address_at}
use Rattle.topology.specs.Sound.{IsWellFormed}
use Rattle.shadow_checks.specs.Shadows.{HasNoShadow, IsLeastShadow}
use Rattle.shadow_checks.specs.Holders.{HasNoIfaceShadow, HasNoAddress, IsLeastIfaceShadow}
use Rattle.shadow_checks.proofs.Choosing.{match_weaker}
use Rattle.shadow_checks.proofs.Moved.{some_is}

-- an address of an interface is its network's
pub its_network : (p : Policy) → IsWellFormed p → (i a : ℕ) (shared : Bool) → i < length p.ifaces → address_at p i shared ≡ Some a → IsTrue (prefix_holds (net_of p (net_at p i)).own a)
its_network p formed i a true there e = (formed.shared i a there e).1
its_network p formed i a false there e = formed.addresses i a there e

pub no_address : (p : Policy) (view : List ℕ) (i : ℕ) (shared : Bool) → address_at p i shared ≡ None → HasNoIfaceShadow p view i shared
no_address p view i shared e m w = none_some w.address (sym e ∙ w.its)
  where
    none_some : (a : ℕ) → ◌≡◌ {A = Option ℕ} None (Some a) → ⊥
    none_some a h = cc h

module _ (p : Policy) (view : List ℕ) (i a : ℕ) (shared : Bool) (addr : address_at p i shared ≡ Some a) where
  its_shadow : (m : ℕ) → IsIfaceShadowed p view i shared m → IsShadowed p view (net_at p i) (one_address a) m
  its_shadow m w = subst (λ (b : ℕ). IsShadowed p view (net_at p i) (one_address b) m) (some_is w.address a (sym w.its ∙ addr)) w.shadowed

  least_its : (m : ℕ) → IsLeastShadow p view (net_at p i) (one_address a) m → IsLeastIfaceShadow p view i shared m
  least_its m w = record { there = record { address = a; its = addr; shadowed = w.there }; least = λ k h. w.least k (its_shadow k h) }

  pub of_iface : (o : Option NetId) → MatchOption o (HasNoShadow p view (net_at p i) (one_address a)) (λ m. IsLeastShadow p view (net_at p i) (one_address a) m.0) →
      MatchOption o (HasNoIfaceShadow p view i shared) (λ m. IsLeastIfaceShadow p view i shared m.0)
  of_iface o h =
      match_weaker (HasNoShadow p view (net_at p i) (one_address a)) (HasNoIfaceShadow p view i shared) (λ (m : NetId). IsLeastShadow p view (net_at p i) (one_address a) m.0) (λ (m : NetId). IsLeastIfaceShadow p view i shared m.0) o
      (λ none m w. none m (its_shadow m w)) (λ m w. least_its m.0 w) h

-- neither of the two addresses
pub neither : (p : Policy) (view : List ℕ) (i : ℕ) → HasNoIfaceShadow p view i false → HasNoIfaceShadow p view i true → HasNoAddress p view i
neither p view i own other true = other
neither p view i own other false = own
