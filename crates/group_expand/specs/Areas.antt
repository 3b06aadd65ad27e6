-- The zones of areas, one by one, and the first border whose zone isn't in its area.
use Rattle.std.specs.Prelude.{◌≡◌, ℕ, ◌<◌, ◌↔◌, Bool, true, false, not, ◌&&◌, List, length, IsTrue, slice_index_or, []}
use Rattle.std.specs.List.Sorted.{IsStrictlyIncreasing}
use Rattle.policy_model.specs.Lists.{has}
use Rattle.policy_model.specs.Policy.{Policy, area_of}
use Rattle.policy_model.specs.Zones.{Site, zone_at}
use Rattle.policy_model.specs.Objects.{AreAreas, IsInArea}
use Rattle.policy_model.specs.Faults.{is_split}
use Rattle.policy_model.specs.Headline.{Meaning}
use Rattle.topology.specs.First.{TellsFirst}
use Rattle.topology.specs.View.{sources_of}
use Rattle.topology.specs.declared.topo.Topo.{Topo}
use Rattle.spoc_base.specs.declared.fault.Fault.{Fault}
use Rattle.group_expand.specs.Spread.{marked}
use Rattle.group_expand.specs.declared.area.AreaFail.{AreaFail}
use Rattle.group_expand.specs.declared.area.AreaFail.TheVariants as fail

-- an interface with a mark whose zone has none
abbrev pub is_outside : Site → List Bool → List Bool → ℕ → Bool
is_outside s marks seen i = marked marks i && not (marked seen (zone_at s i))

-- the least number that passes
pub record IsFirst (test : ℕ → Bool) (i : ℕ) : Type 0 where
  pub passes : test i ≡ true
  pub first : (j : ℕ) → j < i → test j ≡ false

-- the zones of an area, ascending
pub record IsAreaRow (s : Site) (k : ℕ) (row : List ℕ) : Type 0 where
  pub ascending : IsStrictlyIncreasing row
  pub zones : (z : ℕ) → IsTrue (has row z) ↔ IsInArea s k z

-- a border of the area whose zone isn't among these
abbrev pub is_cut_off : Site → ℕ → List ℕ → ℕ → Bool
is_cut_off s k row i = has (area_of s.policy k).borders i && not (has row (zone_at s i))

-- The area is split at this border, and at no lower one.
abbrev pub FailsArea : Site → ℕ → AreaFail → Type 0
FailsArea s k fail.Memory = Unit {0}
FailsArea s k (fail.Split i) = (row : List ℕ) → IsAreaRow s k row → IsFirst (is_cut_off s k row) i.0

-- the border is an interface
abbrev pub IsThere : Policy → AreaFail → Type 0
IsThere p fail.Memory = Unit {0}
IsThere p (fail.Split i) = i.0 < length p.ifaces

-- No area is split.
abbrev pub AreWhole : Site → List (List ℕ) → Type 0
AreWhole s areas = (k i : ℕ) → k < length s.policy.areas → is_split s areas k i ≡ false

-- the first rows are those of the first areas, and none of these is split
pub record AreFirstRows (s : Site) (rows : List (List ℕ)) (count : ℕ) : Type 0 where
  pub each : length rows ≡ count
  pub its : (k : ℕ) → k < count → IsAreaRow s k (slice_index_or rows k [])
  pub whole : (k i : ℕ) → k < count → is_cut_off s k (slice_index_or rows k []) i ≡ false

-- an area is split, with whatever table of the areas' zones
abbrev pub TellsSplit : Topo → Site → Fault → Type 0
TellsSplit topo s fault = (m : Meaning) → m.site ≡ s → AreAreas m.site m.areas → TellsFirst (sources_of topo) m 0 0 fault
