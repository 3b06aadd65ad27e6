-- Where services are looked at.
use Rattle.policy_model.specs.Zones.{Site}
use Rattle.policy_model.specs.Objects.{AreAreas}
use Rattle.topology.specs.View.{policy_of}
use Rattle.zone_graph.specs.Grouped.{IsGraphOf}
use Rattle.group_expand.specs.Seen.{site_of}
use Rattle.group_expand.specs.Sets.{AreTables}
use Rattle.service_rules.specs.declared.scope.Scope.{Scope}

abbrev pub site_in : Scope → Site
site_in scope = site_of scope.topo scope.graph.now

-- The zones, the areas and the sets are those of the policy.
pub record IsScope (scope : Scope) : Type 0 where
  pub graph : IsGraphOf (policy_of scope.topo) scope.graph.now
  pub areas : AreAreas (site_of scope.topo scope.graph.now) scope.areas.now
  pub sets : AreTables (site_of scope.topo scope.graph.now) scope.areas.now scope.sets.now
