-- What shared addresses forbid.
use Rattle.std.specs.Prelude.{◌≡◌, ℕ, not, List, Some, IsTrue}
use Rattle.std.specs.List.{list_all}
use Rattle.policy_model.specs.Lists.{has}
use Rattle.policy_model.specs.Policy.{Policy, iface_of, net_at}
use Rattle.policy_model.specs.Paths.{Crossing, interfaces_on}
use Rattle.policy_model.specs.Zones.{Site}
use Rattle.policy_model.specs.Walks.{has_two_of, is_unrestricted, is_allowed_walk}

-- Of the interfaces of one network that share an address an allowed walk uses one at most.
abbrev pub UsesOneSharer : Site → Type 0
UsesOneSharer s =
    (from to : ℕ) (path : List Crossing) (i j a : ℕ) → IsTrue (is_allowed_walk s from to path) → IsTrue (has (interfaces_on path) i) → IsTrue (has (interfaces_on path) j) →
    net_at s.policy i ≡ net_at s.policy j → (iface_of s.policy i).shared ≡ Some a → (iface_of s.policy j).shared ≡ Some a → i ≡ j

-- no restriction of the list has two of the path's interfaces
abbrev pub KeepsRestrictions : Policy → Type 0
KeepsRestrictions p = (path : List Crossing) → is_unrestricted p path ≡ list_all (λ r. not (has_two_of r.members (interfaces_on path))) p.restrictions
