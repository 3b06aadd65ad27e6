-- Marks of zones that spread along the routers through which a tag stays in force.
use Rattle.std.specs.Prelude.{◌≡◌, ℕ, ◌+◌, ◌<◌, ◌↔◌, ◌⊎◌, ◌||◌, Bool, true, false, List, length}
use Rattle.policy_model.specs.Lists.{has}
use Rattle.policy_model.specs.Policy.{router_at, is_managed}
use Rattle.policy_model.specs.Paths.{Reaches}
use Rattle.policy_model.specs.Zones.{Site, zone_at}
use Rattle.policy_model.specs.Tags.{binds, keeps_tag}
use Rattle.nat_domains.specs.Marks.{is_marked, unmarked}

-- A chain through which the tag stays in force leads to the zone from a marked one.
pub record IsSpreadTo (s : Site) (tag : ℕ) (start : List Bool) (zone : ℕ) : Type 0 where
  pub from : ℕ
  pub starts : is_marked start from ≡ true
  pub chain : Reaches (keeps_tag s.policy tag) (zone_at s) from zone

-- Just the zones to which such chains lead are marked.
pub record IsSpread (s : Site) (tag : ℕ) (start marks : List Bool) : Type 0 where
  pub each : length marks ≡ length start
  pub marked : (z : ℕ) → (is_marked marks z ≡ true) ↔ IsSpreadTo s tag start z

-- The interface is among the listed ones, in the zone, and doesn't bind the tag.
pub record IsFree (s : Site) (tag : ℕ) (ifaces : List ℕ) (zone : ℕ) : Type 0 where
  pub iface : ℕ
  pub listed : has ifaces iface ≡ true
  pub free : binds s.policy iface tag ≡ false
  pub at : zone_at s iface ≡ zone

-- The zones of the listed interfaces that don't bind the tag were marked. Those that were not marked before wait.
pub record MarksZonesOf (s : Site) (tag : ℕ) (ifaces : List ℕ) (marks new : List Bool) (waiting left : List ℕ) : Type 0 where
  pub each : length new ≡ length marks
  pub grown : (z : ℕ) → is_marked marks z ≡ true → is_marked new z ≡ true
  pub kept : (z : ℕ) → has waiting z ≡ true → has left z ≡ true
  pub waits : (z : ℕ) → has left z ≡ true → (has waiting z ≡ true) ⊎ (is_marked new z ≡ true)
  pub fresh : (z : ℕ) → is_marked new z ≡ true → (is_marked marks z ≡ true) ⊎ ((has left z ≡ true) × IsFree s tag ifaces z)
  pub done : (i : ℕ) → has ifaces i ≡ true → binds s.policy i tag ≡ false → is_marked new (zone_at s i) ≡ true
  pub room : unmarked new + length left ≡ unmarked marks + length waiting

-- So far: what is marked is reached; and where an interface of a managed router that doesn't bind the tag stands in a marked zone, either the zone still
-- waits, or the router was passed, and the zones of all its interfaces that don't bind the tag are marked.
pub record IsSpreading (s : Site) (tag : ℕ) (start marks : List Bool) (waiting : List ℕ) (passed : List Bool) : Type 0 where
  pub each : length marks ≡ length start
  pub started : (z : ℕ) → is_marked start z ≡ true → is_marked marks z ≡ true
  pub reached : (z : ℕ) → is_marked marks z ≡ true → IsSpreadTo s tag start z
  pub waits : (z : ℕ) → has waiting z ≡ true → is_marked marks z ≡ true
  pub through : (i : ℕ) → i < length s.policy.ifaces → is_marked passed (router_at s.policy i) ≡ true → binds s.policy i tag ≡ false → is_marked marks (zone_at s i) ≡ true
  pub left : (i : ℕ) → i < length s.policy.ifaces → is_managed s.policy (router_at s.policy i) ≡ true → binds s.policy i tag ≡ false →
      is_marked marks (zone_at s i) ≡ true → (has waiting (zone_at s i) || is_marked passed (router_at s.policy i)) ≡ true

-- Whatever the marks at the start were, the state stays as it should.
abbrev pub StaysSpreading : Site → ℕ → List Bool → List ℕ → List Bool → List Bool → List ℕ → List Bool → Type 0
StaysSpreading s tag marks waiting passed new left gone =
    (start : List Bool) → IsSpreading s tag start marks waiting passed → IsSpreading s tag start new left gone

-- what was marked stays so
abbrev pub Grows : List Bool → List Bool → Type 0
Grows marks new = (k : ℕ) → is_marked marks k ≡ true → is_marked new k ≡ true
