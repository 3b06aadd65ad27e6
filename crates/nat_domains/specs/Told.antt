-- Which fault of the tags a refusal tells.
use Rattle.std.specs.Prelude.{ℕ, ◌<◌, List, length}
use Rattle.spoc_base.specs.declared.place.Source.{Source}
use Rattle.spoc_base.specs.declared.fault.Fault.{Fault}
use Rattle.policy_model.specs.Zones.{Site, zone_count}
use Rattle.policy_model.specs.Tags.{Views, zone_view}
use Rattle.policy_model.specs.FirstFault.{NatConflict, NatTwice, NatInside}
use Rattle.topology.specs.Told.{IsTold}
use Rattle.nat_domains.specs.Conflicts.{IsLeastConflict}
use Rattle.nat_domains.specs.Translated.{HasNoPair, HasNoInside, IsFirstPair, IsLeastInside}

-- It tells the conflict of the lowest zone, and of the lowest tag there.
pub record TellsConflict (sources : List Source) (s : Site) (told : Fault) : Type 0 where
  pub zone : ℕ
  pub tag : ℕ
  pub first : IsLeastConflict s (length s.policy.tags) zone tag
  pub tells : IsTold sources s (NatConflict tag zone) told

-- It tells the first two tags of a network that are in force in one zone: those of the lowest zone, of the lowest network there, and the lowest ones.
pub record TellsTwice (sources : List Source) (s : Site) (v : Views) (told : Fault) : Type 0 where
  pub zone : ℕ
  pub net : ℕ
  pub tag : ℕ
  pub other : ℕ
  pub there : zone < zone_count s
  pub first : IsFirstPair s.policy (zone_view v zone) net tag other
  pub before : (z : ℕ) → z < zone → HasNoPair s.policy (zone_view v z)
  pub tells : IsTold sources s (NatTwice net zone tag other) told

-- It tells the first tag of a network that is in force in the network's own zone.
pub record TellsInside (sources : List Source) (s : Site) (v : Views) (told : Fault) : Type 0 where
  pub net : ℕ
  pub tag : ℕ
  pub there : net < length s.policy.nets
  pub first : IsLeastInside s v net tag
  pub before : HasNoInside s v net
  pub tells : IsTold sources s (NatInside net tag) told
