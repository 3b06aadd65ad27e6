-- The first view in which an address lies at another network.
use Rattle.std.specs.Prelude.{◌≡◌, ℕ, List, IsTrue}
use Rattle.std.specs.List.{All}
use Rattle.policy_laws.specs.Shaped.{IsShaped}
use Rattle.policy_model.specs.Policy.{Policy}
use Rattle.policy_model.specs.Tags.{Views}
use Rattle.policy_model.specs.Zones.{Site}
use Rattle.policy_model.specs.FirstFault.{ViewPlace, view_at, place_order, is_lower, FaultCase, HostShadowed, IfaceShadowed}
use Rattle.topology.specs.View.{policy_of}
use Rattle.topology.specs.declared.topo.Topo.{Topo}
use Rattle.zone_graph.specs.Grouped.{Graph}
use Rattle.nat_view.specs.Fails.{place_seen}
use Rattle.nat_view.specs.Seen.{Seen, has_view, AreAllApart}
use Rattle.nat_view.specs.declared.fail.ViewAt.{ViewAt}
use Rattle.shadow_checks.specs.Holders.{HasNoneHere, IsFirstHere}
use Rattle.shadow_checks.specs.declared.here.Holder.{Holder}
use Rattle.shadow_checks.specs.declared.here.Holder.TheVariants.{Host, Iface}

-- a policy in memory with the zones of its graph
abbrev pub site_of : Topo → Graph → Site
site_of topo graph = record { policy = policy_of topo; zones = graph.zones }

-- The views are those of the policy, and no two networks have one prefix in one.
pub record IsReady (p : Policy) (seen : Seen) : Type 0 where
  pub policy : seen.policy ≡ p
  pub shaped : IsShaped p
  pub apart : AreAllApart p seen.views

-- in the view of none of the places an address lies at another network
abbrev pub HaveNoPlaces : Policy → Views → List ViewAt → Type 0
HaveNoPlaces p v places = All (λ at. HasNoneHere p (view_at v (place_seen at))) places

-- in no view an address lies at another network
abbrev pub HasNone : Policy → Views → Type 0
HasNone p v = (at : ViewPlace) → IsTrue (has_view v at) → HasNoneHere p (view_at v at)

-- The view is the first one in which an address lies at another network, and the holder and the network are the first ones there.
pub record IsFirst (p : Policy) (v : Views) (at : ViewPlace) (holder : Holder) (m : ℕ) : Type 0 where
  pub viewed : IsTrue (has_view v at)
  pub here : IsFirstHere p (view_at v at) holder m
  pub before : (other : ViewPlace) → IsTrue (has_view v other) → IsTrue (is_lower (place_order other) (place_order at)) → HasNoneHere p (view_at v other)

-- the fault of an address of the holder that lies at the network
abbrev pub case_of : ViewPlace → Holder → ℕ → FaultCase
case_of at (Host h) m = HostShadowed h.0 m at
case_of at (Iface i shared) m = IfaceShadowed i.0 shared m at
