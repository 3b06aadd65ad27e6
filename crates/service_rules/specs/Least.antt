-- The least interface that passes a test.
use Rattle.std.specs.Prelude.{◌≡◌, ℕ, ◌<◌, Bool, false, List, ◌++◌, length, slice_index_or, Option, Some, None}
use Rattle.std.specs.List.{list_any}
use Rattle.spoc_base.specs.declared.ids.IfId.{IfId}
use Rattle.group_expand.specs.Areas.{IsFirst}
use Rattle.policy_model.specs.Policy.{Rule}
use Rattle.policy_model.specs.Zones.{Site}
use Rattle.policy_model.specs.Objects.{Object, objects_of}
use Rattle.policy_model.specs.Faults.{is_managed_end, has_managed_end}
use Rattle.policy_model.specs.FirstFault.{no_service}

-- the least interface that passes, or that none does
abbrev pub IsLeast : (ℕ → Bool) → Option IfId → Type 0
IsLeast test None = (i : ℕ) → test i ≡ false
IsLeast test (Some i) = IsFirst test i.0

-- the interface, where there is one, is below a count
abbrev pub IsBelow : ℕ → Option IfId → Type 0
IsBelow count None = Unit {0}
IsBelow count (Some i) = i.0 < count

-- the interface is of a managed router, and at an end of the rule
abbrev pub rule_has_end : Site → List (List ℕ) → List Object → Rule → ℕ → Bool
rule_has_end s areas user rule i = list_any (is_managed_end s.policy i) (objects_of s areas user rule.src ++ objects_of s areas user rule.dst)

-- the service has such an interface
abbrev pub service_has_end : Site → List (List ℕ) → ℕ → ℕ → Bool
service_has_end s areas k i = has_managed_end s areas (slice_index_or s.policy.services k no_service) i

-- no service before this one has such an end
abbrev pub NoneBefore : Site → List (List ℕ) → ℕ → Type 0
NoneBefore s areas k = (l i : ℕ) → l < k → service_has_end s areas l i ≡ false

-- the service has such an end, this one is its least, and no service before has one
pub record IsEndAt (s : Site) (areas : List (List ℕ)) (k : ℕ) (i : IfId) : Type 0 where
  pub there : k < length s.policy.services
  pub before : NoneBefore s areas k
  pub least : IsFirst (service_has_end s areas k) i.0
  pub iface : i.0 < length s.policy.ifaces

-- the first service that has such an end, with its least one; or none has
abbrev pub IsFirstEnd : Site → List (List ℕ) → Option (ℕ × IfId) → Type 0
IsFirstEnd s areas None = NoneBefore s areas (length s.policy.services)
IsFirstEnd s areas (Some found) = IsEndAt s areas found.0 found.1
