-- Where traffic goes: from a zone to a network of another one.
use Rattle.std.specs.Prelude.{ℕ, ◌<◌, ◌==◌, List, [], ◌∷◌, ◌++◌, length, if◌then◌else◌}
use Rattle.std.specs.List.{All, Contains}
use Rattle.policy_model.specs.Policy.{Policy}
use Rattle.policy_model.specs.Zones.{Site, zone_of}
use Rattle.policy_model.specs.Permits.{Permit, has_replies}
use Rattle.permit_set.specs.declared.permit.Permit.{Permit as Stored}

-- from the zone of one network to another network
abbrev pub way_of : Site → ℕ → ℕ → List (ℕ × ℕ)
way_of s u v = if zone_of s u == zone_of s v then [] else (zone_of s u, v) ∷ []

-- where the traffic of a permit goes, and its replies
abbrev pub permit_ways : Site → Permit → List (ℕ × ℕ)
permit_ways s q = way_of s q.src.net q.dst.net ++ (if has_replies q.box then way_of s q.dst.net q.src.net else [])

-- The networks of the permits are there.
abbrev pub AreAtNets : Policy → List Stored → Type 0
AreAtNets p permits = All (λ q. (q.src.net.0 < length p.nets) × (q.dst.net.0 < length p.nets)) permits

-- The network is there, and its zone has a table for walks from the other zone.
pub record IsNamed (s : Site) (names : List (ℕ × ℕ)) (way : ℕ × ℕ) : Type 0 where
  pub there : way.1 < length s.policy.nets
  pub named : Contains names (way.0, zone_of s way.1)
