-- Whose addresses there are: those of hosts and of interfaces.
use Rattle.std.specs.Prelude.{◌≡◌, ℕ, ◌<◌, ◌⊎◌, Bool, ◌&&◌, List, length, Some, is_some, IsTrue}
use Rattle.std.specs.List.{list_all}
use Rattle.spoc_base.specs.Address.{within}
use Rattle.policy_model.specs.Policy.{Policy, host_of, net_at}
use Rattle.policy_model.specs.Zones.{Site, zone_of}
use Rattle.policy_model.specs.Tags.{Views}
use Rattle.policy_model.specs.Places.{prefix_in}
use Rattle.policy_model.specs.Permits.{Point, Packet}
use Rattle.policy_model.specs.Packets.{views_on, walks_of}
use Rattle.policy_model.specs.FirstFault.{address_at}

-- It is an address of the host.
pub record IsOfHost (p : Policy) (e : Point) (h : ℕ) : Type 0 where
  pub there : h < length p.hosts
  pub net : (host_of p h).net ≡ e.net
  pub inside : IsTrue (within (host_of p h).range e.addr)

-- It is the interface's own address, or the one that it shares.
pub record IsOfIface (p : Policy) (e : Point) (i : ℕ) : Type 0 where
  pub there : i < length p.ifaces
  pub net : net_at p i ≡ e.net
  pub shared : Bool
  pub its : address_at p i shared ≡ Some e.addr

-- It is an address of a host or of an interface.
abbrev pub IsHeld : Policy → Point → Type 0
IsHeld p e = ((h : ℕ) × IsOfHost p e h) ⊎ ((i : ℕ) × IsOfIface p e i)

-- The view hides neither end of the packet.
abbrev pub sees_ends : Policy → Packet → List ℕ → Bool
sees_ends p x view = is_some (prefix_in p view x.src.net) && is_some (prefix_in p view x.dst.net)

-- nor does any view that an allowed walk of the packet meets
abbrev pub is_seen_on_walks : Site → Views → Packet → Bool
is_seen_on_walks s v x = list_all (λ path. list_all (sees_ends s.policy x) (views_on s v (zone_of s x.src.net) path)) (walks_of s x)
