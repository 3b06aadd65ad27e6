-- Which fault of a policy a refusal tells: its row, and the names of what it is about as the sources have them.
use Rattle.std.specs.Prelude.{◌≡◌, ℕ, List, [], Option, Some, None, slice_index_or}
use Rattle.spoc_base.specs.declared.place.Source.{Source}
use Rattle.spoc_base.specs.declared.place.Kind.{Kind}
use Rattle.spoc_base.specs.declared.place.Kind.TheVariants as kind
use Rattle.spoc_base.specs.declared.place.Named.{Named}
use Rattle.spoc_base.specs.declared.place.Named.TheVariants.{Plain}
use Rattle.spoc_base.specs.declared.fault.Fault.{Fault}
use Rattle.spoc_base.specs.declared.fault.Fault.TheVariants as fault
use Rattle.spoc_base.specs.declared.fault.HopAt.{HopAt}
use Rattle.spoc_base.specs.declared.fault.HopAt.TheVariants.{Next, Direct}
use Rattle.policy_model.specs.Policy.{Policy, net_of, host_of, router_of, area_of, router_at, net_at}
use Rattle.policy_model.specs.Zones.{Site, nets_in}
use Rattle.policy_model.specs.Routes.{NextHop}
use Rattle.policy_model.specs.FirstFault.{FaultCase, ViewPlace, AtZone, AtRouter, AreaSplit, NatConflict, NatTwice, NatInside, LimitViews, SamePrefix, HostShadowed, IfaceShadowed, ManagedEnd, LimitPermits, NoPath, HiddenEnd, LimitLines, LimitRoutes, NoHopAddress, AmbiguousHop, no_service}
use Rattle.topology.specs.Texts.{LiesIn, text_at, name_span, IsIfaceCalled}

-- The thing is called by its kind and this name, which stands in a source.
pub record IsNameOf (k : Kind) (sources : List Source) (name : List ℕ) (named : Named) : Type 0 where
  pub is : named ≡ Plain k (name_span named)
  pub lies : LiesIn sources (name_span named)
  pub text : text_at sources (name_span named) ≡ name

-- an interface, by its router and its network
abbrev pub IsIfaceName : List Source → Policy → ℕ → Named → Type 0
IsIfaceName sources p i named = IsIfaceCalled sources (router_of p (router_at p i)).name (net_of p (net_at p i)).name named

abbrev pub IsNetName : List Source → Policy → ℕ → Named → Type 0
IsNetName sources p n named = IsNameOf kind.Network sources (net_of p n).name named

abbrev pub tag_name : Policy → ℕ → List ℕ
tag_name p tag = (slice_index_or p.tags tag (record { name = [] })).name

abbrev pub IsTagName : List Source → Policy → ℕ → Named → Type 0
IsTagName sources p tag named = IsNameOf kind.Tag sources (tag_name p tag) named

-- the name of a zone is that of its least network
abbrev pub zone_name : Site → ℕ → List ℕ
zone_name s z = (net_of s.policy (slice_index_or (nets_in s z) 0 0)).name

abbrev pub IsZoneName : List Source → Site → ℕ → Named → Type 0
IsZoneName sources s z named = IsNameOf kind.Zone sources (zone_name s z) named

abbrev pub IsPlaceName : List Source → Site → ViewPlace → Named → Type 0
IsPlaceName sources s (AtZone z) named = IsZoneName sources s z named
IsPlaceName sources s (AtRouter r) named = IsNameOf kind.Router sources (router_of s.policy r).name named

-- a hop: the next interface, or the one that leads straight into the network
abbrev pub IsHopName : List Source → Policy → NextHop → HopAt → Type 0
IsHopName sources p h hop = go h.next hop
  where
    go : Option ℕ → HopAt → Type 0
    go (Some i) (Next named) = IsIfaceName sources p i named
    go None (Direct named) = IsIfaceName sources p h.out named
    go _ _ = ⊥

-- the refusal tells this fault
abbrev pub IsTold : List Source → Site → FaultCase → Fault → Type 0
IsTold sources s (AreaSplit k i) (fault.AreaSplit area border) = IsNameOf kind.Area sources (area_of s.policy k).name area × IsIfaceName sources s.policy i border
IsTold sources s (NatConflict tag z) (fault.NatConflict name zone) = IsTagName sources s.policy tag name × IsZoneName sources s z zone
IsTold sources s (NatTwice n z tag other) (fault.NatTwice net zone first second) =
    IsNetName sources s.policy n net × IsZoneName sources s z zone × IsTagName sources s.policy tag first × IsTagName sources s.policy other second
IsTold sources s (NatInside n tag) (fault.NatInside net name) = IsNetName sources s.policy n net × IsTagName sources s.policy tag name
IsTold sources s LimitViews fault.LimitViews = Unit {0}
IsTold sources s (SamePrefix n other place) (fault.SamePrefix first second at) =
    IsNetName sources s.policy n first × IsNetName sources s.policy other second × IsPlaceName sources s place at
IsTold sources s (HostShadowed h other place) (fault.HostShadowed name net at) =
    IsNameOf kind.Host sources (host_of s.policy h).name name × IsNetName sources s.policy other net × IsPlaceName sources s place at
IsTold sources s (IfaceShadowed i shared other place) (fault.HostShadowed name net at) =
    IsIfaceName sources s.policy i name × IsNetName sources s.policy other net × IsPlaceName sources s place at
IsTold sources s (ManagedEnd k i) (fault.ManagedEnd service iface) =
    IsNameOf kind.Service sources (slice_index_or s.policy.services k no_service).name service × IsIfaceName sources s.policy i iface
IsTold sources s LimitPermits fault.LimitPermits = Unit {0}
IsTold sources s (NoPath u w) (fault.NoPath src dst) = IsNetName sources s.policy u src × IsNetName sources s.policy w dst
IsTold sources s (HiddenEnd k u w n z) (fault.HiddenEnd src dst net zone) =
    IsNetName sources s.policy u src × IsNetName sources s.policy w dst × IsNetName sources s.policy n net × IsZoneName sources s z zone
IsTold sources s LimitLines fault.LimitLines = Unit {0}
IsTold sources s LimitRoutes fault.LimitRoutes = Unit {0}
IsTold sources s (NoHopAddress r n i) (fault.NoHopAddress router net iface) =
    IsNameOf kind.Router sources (router_of s.policy r).name router × IsNetName sources s.policy n net × IsIfaceName sources s.policy i iface
IsTold sources s (AmbiguousHop r n one two) (fault.AmbiguousHop router net first second) =
    IsNameOf kind.Router sources (router_of s.policy r).name router × IsNetName sources s.policy n net × IsHopName sources s.policy one first × IsHopName sources s.policy two second
IsTold sources s _ _ = ⊥
