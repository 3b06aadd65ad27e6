-- The first address that lies at another network, as a function of a policy's meaning. The views are taken in their order, then the hosts and the interfaces,
-- then the networks, and the first three that pass the test are the fault.
use Rattle.std.specs.Prelude.{ℕ, suc, ◌-◌, Bool, true, false, not, ◌&&◌, ◌==◌, List, [], ◌∷◌, ◌++◌, map, Option, Some, option_map, option_and_then}
use Rattle.std.specs.Option.{option_map_or}
use Rattle.std.specs.List.{list_any, range_with_len}
use Rattle.spoc_base.specs.Address.{Interval}
use Rattle.policy_model.specs.Lists.{pairs_of}
use Rattle.policy_model.specs.Policy.{Policy, host_of, net_at, all_nets, all_hosts, all_ifaces}
use Rattle.policy_model.specs.Places.{translated_address, is_number, place}
use Rattle.policy_model.specs.Permits.{one_address}
use Rattle.policy_model.specs.FirstFault.{FaultCase, HostShadowed, IfaceShadowed, ViewPlace, view_at, address_at}
use Rattle.policy_model.specs.Headline.{Meaning}
use Rattle.fault_laws.specs.Cases.{first_case, all_places}

-- ---- addresses

-- the numbers from the first to the last of a range
abbrev pub addresses_in : Interval → List ℕ
addresses_in r = range_with_len r.first (suc r.last - r.first)

-- the own address a of network n, moved into the view, lies at network m
abbrev pub lies_at : Policy → List ℕ → ℕ → ℕ → ℕ → Bool
lies_at p view n m a = is_number (option_and_then (place p view) (translated_address p view n a)) m

-- some address of the range of network n lies at network m, which is another one
abbrev pub is_shadowed : Policy → List ℕ → ℕ → Interval → ℕ → Bool
is_shadowed p view n range m = not (m == n) && list_any (lies_at p view n m) (addresses_in range)

-- ---- who has addresses

-- a host, or an interface by its own or by its shared address
pub data Holder : Type 0 where
  OfHost : (host : ℕ) → Holder
  OfIface : (iface : ℕ) (shared : Bool) → Holder

-- the hosts before the interfaces, and of an interface the own address before the shared one
abbrev pub all_holders : Policy → List Holder
all_holders p = map OfHost (all_hosts p) ++ map (λ e. OfIface e.0 e.1) (pairs_of (all_ifaces p) (false ∷ true ∷ []))

-- the network whose addresses these are
abbrev pub holder_net : Policy → Holder → ℕ
holder_net p (OfHost h) = (host_of p h).net
holder_net p (OfIface i shared) = net_at p i

-- a host's range, or this address of an interface, where it has one
abbrev pub holder_range : Policy → Holder → Option Interval
holder_range p (OfHost h) = Some (host_of p h).range
holder_range p (OfIface i shared) = option_map one_address (address_at p i shared)

-- some address of the holder lies at network m, which isn't its own
abbrev pub is_holder_shadowed : Policy → List ℕ → Holder → ℕ → Bool
is_holder_shadowed p view holder m = option_map_or (λ range. is_shadowed p view (holder_net p holder) range m) (holder_range p holder) false

-- the fault that this is
abbrev pub shadow_of : Holder → ℕ → ViewPlace → FaultCase
shadow_of (OfHost h) m at = HostShadowed h m at
shadow_of (OfIface i shared) m at = IfaceShadowed i shared m at

-- ---- the first one

-- a place of a view, a host or an interface, and a network at which an address of it lies there
abbrev pub shadow_case : Meaning → Option FaultCase
shadow_case m =
    first_case (λ e. shadow_of e.1.0 e.1.1 e.0) (λ e. is_holder_shadowed m.site.policy (view_at m.views e.0) e.1.0 e.1.1)
    (pairs_of (all_places m.site) (pairs_of (all_holders m.site.policy) (all_nets m.site.policy)))
