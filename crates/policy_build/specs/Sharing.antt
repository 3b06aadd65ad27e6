-- Interfaces that share an address.
use Rattle.std.specs.Prelude.{◌≡◌, ℕ, ◌<◌, Bool, true, false, ◌&&◌, ◌==◌, List, [], ◌∷◌, length, map, position, slice_index, Option, Some, None, is_some, option_map, if◌then◌else◌}
use Rattle.std.specs.List.{All, list_any}
use Rattle.policy_model.specs.Policy.{Policy, Restriction, iface_of}
use Rattle.policy_model.specs.Walks.{sharers, begins_set}
use Rattle.policy_decls.specs.Said.{or_zero, implied_by, policy_said}
use Rattle.topology.specs.Rows.{AreRows, row_at}
use Rattle.topology.specs.Seen.{iface_seen}
use Rattle.topology.specs.declared.items.Iface.{Iface}
use Rattle.policy_build.specs.declared.scope.Scope.{Scope}
use Rattle.policy_build.specs.declared.sharing.Sharing.{Sharing}
use Rattle.policy_build.specs.Views.{decls_of, sources_in}
use Rattle.policy_build.specs.Ifaces.{IsIfaceIn}

-- one network, and one address there
abbrev pub same_pair : ℕ × ℕ → ℕ × ℕ → Bool
same_pair k m = (k.0 == m.0) && (k.1 == m.1)

-- the address that an interface shares, if any, is among the keys
abbrev pub is_keyed : List (ℕ × ℕ) → ℕ → Option ℕ → Bool
is_keyed keys net None = true
is_keyed keys net (Some a) = list_any (same_pair (net, a)) keys

-- a number for the interfaces of one network that share one address, and another one for those that share none
abbrev pub class_of : List (ℕ × ℕ) → ℕ → Option ℕ → ℕ
class_of keys net None = length keys
class_of keys net (Some a) = or_zero (position (same_pair (net, a)) keys)

-- no key is lost
abbrev pub GrowsTo : List (ℕ × ℕ) → List (ℕ × ℕ) → Type 0
GrowsTo old new = (k : ℕ × ℕ) → list_any (same_pair k) old ≡ true → list_any (same_pair k) new ≡ true

abbrev pub iface_keyed : List (ℕ × ℕ) → Iface → Bool
iface_keyed keys x = is_keyed keys x.net.0 (option_map (λ a. a.0) x.shared)

abbrev pub iface_class : List (ℕ × ℕ) → Iface → ℕ
iface_class keys x = class_of keys x.net.0 (option_map (λ a. a.0) x.shared)

-- the set that an interface begins, if any
abbrev pub begun : Policy → ℕ → List (List ℕ)
begun p i = if is_some (iface_of p i).shared && begins_set i (sharers p i) then sharers p i ∷ [] else []

-- the restriction that is named by an interface, if any
abbrev pub begun_by : Policy → ℕ → List Restriction
begun_by p i = map (implied_by p) (begun p i)

-- The interfaces are those that are said, and for each that shares an address its row has those that share it.
pub record IsSharing (scope : Scope) (s : Sharing) : Type 0 where
  pub said : map (iface_seen (sources_in scope)) s.ifaces.now ≡ (policy_said (decls_of scope)).ifaces
  pub written : All (IsIfaceIn (sources_in scope) (decls_of scope)) s.ifaces.now
  pub cut : AreRows s.sharers.ids.now s.sharers.ends.now
  pub many : length s.classes.now ≡ length s.ifaces.now
  pub classes : All (λ c. c < length s.sharers.ends.now) s.classes.now
  pub sharers_are : (i : ℕ) → i < length s.ifaces.now → is_some (iface_of (policy_said (decls_of scope)) i).shared ≡ true →
      map (λ m. m.0) (row_at s.sharers.ids.now s.sharers.ends.now (slice_index s.classes.now i)) ≡ sharers (policy_said (decls_of scope)) i
