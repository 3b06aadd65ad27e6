-- What a router sees inside.
use Rattle.std.specs.Prelude.{◌≡◌, ℕ, ◌<◌, false, length}
use Rattle.policy_model.specs.Policy.{router_at}
use Rattle.policy_model.specs.Zones.{Site, zone_at}
use Rattle.policy_model.specs.Tags.{binds, IsActive}

-- the tag is in force in the zone
abbrev pub IsActiveIn : Site → ℕ → ℕ → Type 0
IsActiveIn s z tag = IsActive s tag z

-- No interface of the router binds the tag, and the tag is in force in the zone of one of them.
pub record IsInnerTag (s : Site) (r tag : ℕ) : Type 0 where
  pub iface : ℕ
  pub there : iface < length s.policy.ifaces
  pub its : router_at s.policy iface ≡ r
  pub active : IsActive s tag (zone_at s iface)
  pub unbound : (j : ℕ) → j < length s.policy.ifaces → router_at s.policy j ≡ r → binds s.policy j tag ≡ false
