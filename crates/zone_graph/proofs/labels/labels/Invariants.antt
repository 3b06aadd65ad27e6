use Rattle.std.proofs.Common.{◌≡◌, ◌≤◌, length}
use Rattle.topology.specs.View.{policy_of}
use Rattle.zone_graph.specs.Labels.{AreLabels}
use Rattle.zone_graph.proofs.labels.labels.Given as goal

abbrev pub invariant-loop : goal.invariant-loop
invariant-loop l = AreLabels (policy_of l.topo) l.parents.items l.zones.items l.count × (length l.zones.items ≡ l.counter) × (l.count ≤ length l.zones.items)
