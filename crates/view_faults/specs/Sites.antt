-- What clauses see of a policy in memory with its zones.
use Rattle.policy_model.specs.Zones.{Site}
use Rattle.topology.specs.View.{policy_of}
use Rattle.topology.specs.declared.topo.Topo.{Topo}
use Rattle.zone_graph.specs.Grouped.{Graph}

-- the policy with the zones of its graph
abbrev pub site_of : Topo → Graph → Site
site_of topo graph = record { policy = policy_of topo; zones = graph.zones }
