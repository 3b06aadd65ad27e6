use Rattle.std.proofs.Common.{◌≡◌, length}
use Rattle.topology.specs.View.{policy_of}
use Rattle.zone_graph.specs.Grouped.{HasGroups, row_items, doors_below}
use Rattle.zone_graph.proofs.groups.fill_doors.Given as goal

abbrev pub invariant-loop-i : goal.invariant-loop-i
invariant-loop-i l = (length l.rows ≡ length l.fn.rows) × HasGroups (λ i. i.0) (row_items l.rows) (doors_below (policy_of l.topo) l.zones l.i)
