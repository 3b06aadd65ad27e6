-- What the lists of each policy in memory keep.
use Rattle.std.specs.Prelude.{◌≡◌, ℕ, ◌<◌, List, length, map, filter, take, drop, slice_index_or, ◌==◌}
use Rattle.std.specs.List.{All}
use Rattle.spoc_base.specs.declared.place.Source.{Source}
use Rattle.spoc_base.specs.declared.place.Kind.TheVariants as kind
use Rattle.policy_model.specs.Policy.{Policy, net_at, router_at, all_ifaces, net_of, router_of}
use Rattle.topology.specs.Texts.{LiesIn, IsCalled, IsIfaceCalled}
use Rattle.topology.specs.Rows.{AreRows, row_at}
use Rattle.topology.specs.Seen.{plain_of}
use Rattle.topology.specs.Sound.{declared_count, IsSound}
use Rattle.topology.specs.declared.items.Iface.{Iface}
use Rattle.topology.specs.declared.items.Restriction.{Restriction}
use Rattle.topology.specs.declared.items.Parts.{Parts}
use Rattle.topology.specs.declared.items.IfRows.{IfRows}

-- a router's interfaces, by number
abbrev pub ifaces_of : Policy → ℕ → List ℕ
ifaces_of p r = filter (λ i. router_at p i == r) (all_ifaces p)

-- the interfaces at a network, by number
abbrev pub ifaces_at : Policy → ℕ → List ℕ
ifaces_at p n = filter (λ i. net_at p i == n) (all_ifaces p)

-- The interface is called by the names of its router and its network, and its hardware is a part of a source.
abbrev pub IsIfaceWritten : List Source → Policy → Iface → Type 0
IsIfaceWritten sources p x = IsIfaceCalled sources (router_of p x.router.0).name (net_of p x.net.0).name x.name × LiesIn sources x.hardware

-- The restriction that a shared address implies is called as the least of its interfaces.
abbrev pub IsImpliedWritten : List Source → Policy → Restriction → Type 0
IsImpliedWritten sources p x =
    let least = slice_index_or (map (λ i. i.0) x.members.now) 0 0 in
    IsIfaceCalled sources (router_of p (router_at p least)).name (net_of p (net_at p least)).name x.name

-- Each thing is called by its kind and its name, and names and hardware are parts of the sources.
pub record IsWritten (parts : Parts) : Type 0 where
  pub nets : All (λ x. IsCalled kind.Network parts.sources.now x.name) parts.nets.now
  pub hosts : All (λ x. IsCalled kind.Host parts.sources.now x.name) parts.hosts.now
  pub routers : All (λ x. IsCalled kind.Router parts.sources.now x.name) parts.routers.now
  pub ifaces : All (IsIfaceWritten parts.sources.now (plain_of parts)) parts.ifaces.now
  pub tags : All (λ x. IsCalled kind.Tag parts.sources.now x.name) parts.tags.now
  pub restrictions : All (λ x. IsCalled kind.Restriction parts.sources.now x.name) (take (declared_count (plain_of parts)) parts.restrictions.now)
  pub implied : All (IsImpliedWritten parts.sources.now (plain_of parts)) (drop (declared_count (plain_of parts)) parts.restrictions.now)
  pub groups : All (λ x. IsCalled kind.Group parts.sources.now x.name) parts.groups.now
  pub areas : All (λ x. IsCalled kind.Area parts.sources.now x.name) parts.areas.now
  pub aggregates : All (λ x. IsCalled kind.Aggregate parts.sources.now x.name) parts.aggregates.now
  pub services : All (λ x. IsCalled kind.Service parts.sources.now x.name) parts.services.now

-- there are so many rows, and the k-th has the numbers that a list has for k
pub record HoldsRows (rows : IfRows) (count : ℕ) (numbers : ℕ → List ℕ) : Type 0 where
  pub each : length rows.ends.now ≡ count
  pub cut : AreRows rows.ids.now rows.ends.now
  pub content : (k : ℕ) → k < count → map (λ i. i.0) (row_at rows.ids.now rows.ends.now k) ≡ numbers k

-- The policy is sound, its names are in the sources, and its rows have the interfaces of each router and at each network.
pub record IsKept (parts : Parts) : Type 0 where
  pub sound : IsSound (plain_of parts)
  pub written : IsWritten parts
  pub at_router : HoldsRows parts.at_router (length (plain_of parts).routers) (ifaces_of (plain_of parts))
  pub at_net : HoldsRows parts.at_net (length (plain_of parts).nets) (ifaces_at (plain_of parts))
