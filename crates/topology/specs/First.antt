-- Faults by their rows: which one comes first among some neighbouring rows, and that there is none. The rows are numbered in their order, from 0 for
-- a split area on.
use Rattle.std.specs.Prelude.{ℕ, ◌≤◌, not, List, IsTrue}
use Rattle.spoc_base.specs.declared.place.Source.{Source}
use Rattle.spoc_base.specs.declared.fault.Fault.{Fault}
use Rattle.spoc_base.specs.declared.fault.Refusal.{Refusal}
use Rattle.spoc_base.specs.declared.fault.Refusal.TheVariants as refusal
use Rattle.policy_model.specs.Headline.{Meaning, permits_in}
use Rattle.policy_model.specs.FirstFault.{FaultCase, AreaSplit, NatConflict, NatTwice, NatInside, LimitViews, SamePrefix, HostShadowed, IfaceShadowed, ManagedEnd, LimitPermits, NoPath, HiddenEnd, LimitLines, LimitRoutes, NoHopAddress, AmbiguousHop, HasFault, is_lower, order_of}
use Rattle.topology.specs.Told.{IsTold}

abbrev pub row_of : FaultCase → ℕ
row_of (AreaSplit area border) = 0
row_of (NatConflict tag zone) = 1
row_of (NatTwice net zone tag other) = 2
row_of (NatInside net tag) = 3
row_of LimitViews = 4
row_of (SamePrefix net other at) = 5
row_of (HostShadowed host net at) = 6
row_of (IfaceShadowed iface shared net at) = 6
row_of (ManagedEnd service iface) = 7
row_of LimitPermits = 8
row_of (NoPath src dst) = 9
row_of (HiddenEnd permit src dst net zone) = 10
row_of LimitLines = 11
row_of LimitRoutes = 12
row_of (NoHopAddress router net iface) = 13
row_of (AmbiguousHop router net first second) = 14

-- The fault stands in a row from the lowest to the highest.
pub record IsWithin (lowest highest : ℕ) (f : FaultCase) : Type 0 where
  pub lower : lowest ≤ row_of f
  pub upper : row_of f ≤ highest

-- The policy has no fault in these rows.
abbrev pub HasNone : Meaning → ℕ → ℕ → Type 0
HasNone m lowest highest = (f : FaultCase) → IsWithin lowest highest f → HasFault m f → ⊥

-- It has this fault in these rows, and none there that comes before it.
pub record IsFirstWithin (m : Meaning) (lowest highest : ℕ) (f : FaultCase) : Type 0 where
  pub within : IsWithin lowest highest f
  pub there : HasFault m f
  pub first : (g : FaultCase) → IsWithin lowest highest g → HasFault m g → IsTrue (not (is_lower (order_of (permits_in m) g) (order_of (permits_in m) f)))

-- The refusal tells the first fault of these rows.
pub record TellsFirst (sources : List Source) (m : Meaning) (lowest highest : ℕ) (told : Fault) : Type 0 where
  pub case : FaultCase
  pub first : IsFirstWithin m lowest highest case
  pub tells : IsTold sources m.site case told

-- P holds of the fault, unless memory ran out
abbrev pub IsRefusalOf : (Fault → Type 0) → Refusal → Type 0
IsRefusalOf P (refusal.Policy fault) = P fault
IsRefusalOf P refusal.Memory = Unit {0}
