-- The line of a fault by the names of the things in the policy, whatever the sources look like.
use Rattle.std.specs.Prelude.{ℕ, List, [], ◌∷◌, ◌++◌, flat_map, Option, Some, None, slice_index_or, codes}
use Rattle.policy_model.specs.Policy.{Policy, net_of, host_of, router_of, area_of, router_at, net_at}
use Rattle.policy_model.specs.Zones.{Site}
use Rattle.policy_model.specs.Routes.{NextHop}
use Rattle.policy_model.specs.FirstFault.{FaultCase, ViewPlace, AtZone, AtRouter, AreaSplit, NatConflict, NatTwice, NatInside, LimitViews, SamePrefix, HostShadowed, IfaceShadowed, ManagedEnd, LimitPermits, NoPath, HiddenEnd, LimitLines, LimitRoutes, NoHopAddress, AmbiguousHop, no_service}
use Rattle.topology.specs.Told.{tag_name, zone_name}
use Rattle.fault_text.specs.Texts.{value_text}

-- a name under a word, as in network:n1
abbrev pub under : List ℕ → List ℕ → List ℕ
under word name = word ++ codes ":" ++ name

abbrev pub net_shown : Policy → ℕ → List ℕ
net_shown p n = under (codes "network") (net_of p n).name

abbrev pub host_shown : Policy → ℕ → List ℕ
host_shown p h = under (codes "host") (host_of p h).name

abbrev pub router_shown : Policy → ℕ → List ℕ
router_shown p r = under (codes "router") (router_of p r).name

abbrev pub area_shown : Policy → ℕ → List ℕ
area_shown p k = under (codes "area") (area_of p k).name

abbrev pub tag_shown : Policy → ℕ → List ℕ
tag_shown p tag = under (codes "nat") (tag_name p tag)

abbrev pub service_shown : Policy → ℕ → List ℕ
service_shown p k = under (codes "service") (slice_index_or p.services k no_service).name

-- an interface by its router and its network
abbrev pub iface_name : Policy → ℕ → List ℕ
iface_name p i = (router_of p (router_at p i)).name ++ codes "." ++ (net_of p (net_at p i)).name

abbrev pub iface_shown : Policy → ℕ → List ℕ
iface_shown p i = under (codes "interface") (iface_name p i)

-- a zone by its least network
abbrev pub zone_shown : Site → ℕ → List ℕ
zone_shown s z = under (codes "zone") (zone_name s z)

abbrev pub place_shown : Site → ViewPlace → List ℕ
place_shown s (AtZone z) = zone_shown s z
place_shown s (AtRouter r) = router_shown s.policy r

-- a hop: the next interface, or the one that leads straight into the network
abbrev pub hop_shown : Policy → NextHop → List ℕ
hop_shown p h = go h.next
  where
    go : Option ℕ → List ℕ
    go (Some i) = iface_shown p i
    go None = under (codes "direct") (iface_name p h.out)

-- the words that name the fault
abbrev pub case_word : FaultCase → List ℕ
case_word (AreaSplit area border) = codes "AreaSplit"
case_word (NatConflict tag zone) = codes "NatConflict"
case_word (NatTwice net zone tag other) = codes "NatTwice"
case_word (NatInside net tag) = codes "NatInside"
case_word LimitViews = codes "Limit views"
case_word (SamePrefix net other at) = codes "SamePrefix"
case_word (HostShadowed host net at) = codes "HostShadowed"
case_word (IfaceShadowed iface shared net at) = codes "HostShadowed"
case_word (ManagedEnd service iface) = codes "ManagedEnd"
case_word LimitPermits = codes "Limit permits"
case_word (NoPath src dst) = codes "NoPath"
case_word (HiddenEnd permit src dst net zone) = codes "HiddenEnd"
case_word LimitLines = codes "Limit lines"
case_word LimitRoutes = codes "Limit routes"
case_word (NoHopAddress router net iface) = codes "NoHopAddress"
case_word (AmbiguousHop router net first second) = codes "AmbiguousHop"

-- the things that are named, in their order
abbrev pub case_names : Site → FaultCase → List (List ℕ)
case_names s (AreaSplit area border) = area_shown s.policy area ∷ iface_shown s.policy border ∷ []
case_names s (NatConflict tag zone) = tag_shown s.policy tag ∷ zone_shown s zone ∷ []
case_names s (NatTwice net zone tag other) = net_shown s.policy net ∷ zone_shown s zone ∷ tag_shown s.policy tag ∷ tag_shown s.policy other ∷ []
case_names s (NatInside net tag) = net_shown s.policy net ∷ tag_shown s.policy tag ∷ []
case_names s LimitViews = []
case_names s (SamePrefix net other at) = net_shown s.policy net ∷ net_shown s.policy other ∷ place_shown s at ∷ []
case_names s (HostShadowed host net at) = host_shown s.policy host ∷ net_shown s.policy net ∷ place_shown s at ∷ []
case_names s (IfaceShadowed iface shared net at) = iface_shown s.policy iface ∷ net_shown s.policy net ∷ place_shown s at ∷ []
case_names s (ManagedEnd service iface) = service_shown s.policy service ∷ iface_shown s.policy iface ∷ []
case_names s LimitPermits = []
case_names s (NoPath src dst) = net_shown s.policy src ∷ net_shown s.policy dst ∷ []
case_names s (HiddenEnd permit src dst net zone) = net_shown s.policy src ∷ net_shown s.policy dst ∷ net_shown s.policy net ∷ zone_shown s zone ∷ []
case_names s LimitLines = []
case_names s LimitRoutes = []
case_names s (NoHopAddress router net iface) = router_shown s.policy router ∷ net_shown s.policy net ∷ iface_shown s.policy iface ∷ []
case_names s (AmbiguousHop router net first second) = router_shown s.policy router ∷ net_shown s.policy net ∷ hop_shown s.policy first ∷ hop_shown s.policy second ∷ []

-- the line, as `fault AreaSplit area:a interface:r.n`
abbrev pub case_line : Site → FaultCase → List ℕ
case_line s c = codes "fault " ++ case_word c ++ flat_map value_text (case_names s c) ++ codes "\n"
