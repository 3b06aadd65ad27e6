-- Where the names in sets are looked up.
use Rattle.std.specs.Prelude.{◌≡◌, ℕ, true, List, length, map}
use Rattle.policy_model.specs.Policy.{ObjectExpr}
use Rattle.policy_model.specs.Zones.{Site}
use Rattle.policy_model.specs.Objects as plain
use Rattle.policy_model.specs.Objects.{objects_by}
use Rattle.topology.specs.View.{policy_of}
use Rattle.zone_graph.specs.Grouped.{IsGraphOf}
use Rattle.group_expand.specs.Seen.{site_of}
use Rattle.group_expand.specs.Sets.{object_seen, rows_seen, host_rows, group_set, are_there, AreHosts}
use Rattle.group_expand.specs.declared.scope.Scope.{Scope}
use Rattle.group_expand.specs.declared.scope.Base.{Base}

abbrev pub site_in : Scope → Site
site_in scope = site_of scope.topo scope.graph.now

-- the objects of an expression, by the sets of the groups and of the user
abbrev pub objects_in : Scope → ObjectExpr → List plain.Object
objects_in scope e = objects_by (site_in scope) scope.areas.now (group_set (rows_seen scope.groups.now)) (map object_seen scope.user.now) e

-- What there is to look up is that of the policy.
pub record IsScope (scope : Scope) : Type 0 where
  pub graph : IsGraphOf (policy_of scope.topo) scope.graph.now
  pub areas : length scope.areas.now ≡ length (policy_of scope.topo).areas
  pub hosts : AreHosts (policy_of scope.topo) (host_rows scope.hosts.now)
  pub groups : length scope.groups.now ≡ length (policy_of scope.topo).groups
  pub members : (g : ℕ) → are_there (policy_of scope.topo) (group_set (rows_seen scope.groups.now) g) ≡ true
  pub user : are_there (policy_of scope.topo) (map object_seen scope.user.now) ≡ true

abbrev pub site_at : Base → Site
site_at base = site_of base.topo base.graph.now

-- The same, before the sets of groups are made.
pub record IsBase (base : Base) : Type 0 where
  pub graph : IsGraphOf (policy_of base.topo) base.graph.now
  pub areas : length base.areas.now ≡ length (policy_of base.topo).areas
  pub hosts : AreHosts (policy_of base.topo) (host_rows base.hosts.now)
