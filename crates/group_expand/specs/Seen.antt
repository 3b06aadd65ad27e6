-- What clauses see of a policy in memory with its zones.
use Rattle.std.specs.Prelude.{ℕ, List, map, Vec}
use Rattle.spoc_base.specs.declared.ids.IfId.{IfId}
use Rattle.spoc_base.specs.declared.ids.ZoneId.{ZoneId}
use Rattle.policy_model.specs.Zones.{Site}
use Rattle.topology.specs.View.{policy_of}
use Rattle.topology.specs.declared.topo.Topo.{Topo}
use Rattle.zone_graph.specs.Grouped.{Graph}

-- the policy with its zones
abbrev pub site_of : Topo → Graph → Site
site_of topo graph = record { policy = policy_of topo; zones = graph.zones }

-- zones, by number
abbrev pub numbers_of : List ZoneId → List ℕ
numbers_of zones = map (λ z. z.0) zones

-- interfaces, by number
abbrev pub iface_numbers : List IfId → List ℕ
iface_numbers ifaces = map (λ i. i.0) ifaces

-- rows of zones, by number
abbrev pub rows_of : {A : Type 0} → List (Vec ZoneId A) → List (List ℕ)
rows_of rows = map (λ row. numbers_of row.items) rows
