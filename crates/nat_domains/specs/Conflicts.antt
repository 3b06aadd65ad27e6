-- Tags that are in force where they must not be.
use Rattle.std.specs.Prelude.{◌≡◌, ℕ, ◌<◌, ◌≤◌, Option, MatchOption}
use Rattle.spoc_base.specs.declared.ids.ZoneId.{ZoneId}
use Rattle.policy_model.specs.Zones.{Site, zone_count}
use Rattle.policy_model.specs.Faults.{IsConflicting}
use Rattle.nat_domains.specs.declared.table.Conflict.{Conflict}

-- It is the first zone in which the tag is in force and barred.
pub record IsFirstConflict (s : Site) (tag zone : ℕ) : Type 0 where
  pub there : zone < zone_count s
  pub here : IsConflicting s tag zone
  pub before : (z : ℕ) → z < zone → IsConflicting s tag z → ⊥

-- the first such zone, or none where there is none
abbrev pub IsZoneOfConflict : Site → ℕ → Option ZoneId → Type 0
IsZoneOfConflict s tag zone = MatchOption zone ((z : ℕ) → IsConflicting s tag z → ⊥) (λ z. IsFirstConflict s tag z.0)

-- Of the conflicts of the tags below a number it is that of the lowest zone, and of the lowest tag there.
pub record IsLeastConflict (s : Site) (bound zone tag : ℕ) : Type 0 where
  pub low : tag < bound
  pub there : zone < zone_count s
  pub here : IsConflicting s tag zone
  pub least : (z t : ℕ) → t < bound → IsConflicting s t z → (zone ≤ z) × (z ≡ zone → tag ≤ t)

-- the tags below a number have no conflict
abbrev pub HasNoConflict : Site → ℕ → Type 0
HasNoConflict s bound = (z t : ℕ) → t < bound → IsConflicting s t z → ⊥

-- the least conflict of the tags below a number, or none where there is none
abbrev pub IsConflictBelow : Site → ℕ → Option Conflict → Type 0
IsConflictBelow s bound conflict = MatchOption conflict (HasNoConflict s bound) (λ c. IsLeastConflict s bound c.zone.0 c.tag.0)
