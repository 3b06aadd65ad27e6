-- Paths in memory as the definitions' lists.
use Rattle.std.specs.Prelude.{List, Bool, not, ◌&&◌, ◌==◌, map}
use Rattle.std.specs.List.{list_any}
use Rattle.spoc_base.specs.declared.ids.IfId.{IfId}
use Rattle.policy_model.specs.Lists.{has}
use Rattle.policy_model.specs.Policy.{Policy}
use Rattle.policy_model.specs.Paths as plain
use Rattle.policy_model.specs.Marks as marks
use Rattle.policy_model.specs.Zones.{Site}
use Rattle.zone_graph.specs.Grouped.{Graph}
use Rattle.zone_graph.specs.declared.marks.Crossing.{Crossing}
use Rattle.zone_graph.specs.declared.marks.Link.{Link}
use Rattle.path_walk.specs.declared.step.Step.{Step}

abbrev pub crossing_seen : Crossing → plain.Crossing
crossing_seen c = record { enter = c.enter.0; leave = c.leave.0 }

abbrev pub link_seen : Link → marks.Link
link_seen l = record { leave = l.leave.0; enter = l.enter.0 }

abbrev pub step_seen : Step → plain.Crossing
step_seen c = record { enter = c.enter.0; leave = c.leave.0 }

abbrev pub path_seen : List Step → List plain.Crossing
path_seen path = map step_seen path

-- a policy with the zones of its graph
abbrev pub site_of : Policy → Graph → Site
site_of p graph = record { policy = p; zones = graph.zones }

-- whether two different ones of the interfaces are on the path
abbrev pub two_on : List plain.Crossing → List IfId → Bool
two_on path members = list_any (λ i. has (plain.interfaces_on path) i.0 && list_any (λ j. not (i.0 == j.0) && has (plain.interfaces_on path) j.0) members) members

abbrev pub walks_seen : List (List Crossing) → List (List plain.Crossing)
walks_seen walks = map (λ walk. map crossing_seen walk) walks
