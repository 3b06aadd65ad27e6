-- What is known of a policy in memory once its zones, tags and permits were found.
use Rattle.std.specs.Prelude.{◌≡◌, ◌≤◌, ℕ, List, length, map}
use Rattle.policy_model.specs.Tags.{Views}
use Rattle.policy_model.specs.Permits.{Permit}
use Rattle.policy_model.specs.Headline.{Meaning, permits_in}
use Rattle.topology.specs.View.{policy_of, sources_of}
use Rattle.topology.specs.declared.topo.Topo.{Topo}
use Rattle.zone_graph.specs.Grouped.{Graph, IsGraphOf}
use Rattle.meaning_laws.specs.Tables.{meaning_of}
use Rattle.fault_text.specs.Texts.{pair_of}

-- what the policy means
abbrev pub meaning_in : Topo → Meaning
meaning_in topo = meaning_of (policy_of topo)

-- the paths and texts of its sources
abbrev pub pairs_in : Topo → List (List ℕ × List ℕ)
pairs_in topo = map pair_of (sources_of topo)

-- The graph is that of the policy's zones.
pub record IsZoned (topo : Topo) (graph : Graph) : Type 0 where
  pub is_graph : IsGraphOf (policy_of topo) graph
  pub site : record { policy = policy_of topo; zones = graph.zones } ≡ (meaning_in topo).site

-- The graph is that of the policy's zones, and these are its views and its expanded permits, of which there are no more than may be.
pub record IsFound (topo : Topo) (graph : Graph) (tags : Views) (permits : List Permit) : Type 0 where
  pub zoned : IsZoned topo graph
  pub views : tags ≡ (meaning_in topo).views
  pub expanded : permits ≡ permits_in (meaning_in topo)
  pub few : length permits ≤ 4000000
