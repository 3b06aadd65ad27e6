-- How hosts, interfaces, zones and routers are called.
use Rattle.std.specs.Prelude.{ℕ, ◌<◌, List, length}
use Rattle.spoc_base.specs.declared.place.Source.{Source}
use Rattle.spoc_base.specs.declared.place.Kind.TheVariants as kind
use Rattle.spoc_base.specs.declared.place.Named.{Named}
use Rattle.policy_model.specs.Policy.{Policy, host_of}
use Rattle.policy_model.specs.FirstFault.{ViewPlace, AtZone, AtRouter}
use Rattle.topology.specs.Told.{IsNameOf, IsIfaceName}
use Rattle.shadow_checks.specs.declared.here.Holder.{Holder}
use Rattle.shadow_checks.specs.declared.here.Holder.TheVariants.{Host, Iface}

-- the holder is one of the policy
abbrev pub IsHolderIn : Policy → Holder → Type 0
IsHolderIn p (Host h) = h.0 < length p.hosts
IsHolderIn p (Iface i shared) = i.0 < length p.ifaces

-- the place is a zone, of which there are so many, or a router of the policy
abbrev pub IsPlaceIn : Policy → ℕ → ViewPlace → Type 0
IsPlaceIn p zones (AtZone z) = z < zones
IsPlaceIn p zones (AtRouter r) = r < length p.routers

-- the holder is called by this name
abbrev pub IsHolderName : List Source → Policy → Holder → Named → Type 0
IsHolderName sources p (Host h) named = IsNameOf kind.Host sources (host_of p h.0).name named
IsHolderName sources p (Iface i shared) named = IsIfaceName sources p i.0 named
