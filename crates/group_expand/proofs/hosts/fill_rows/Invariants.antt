use Rattle.topology.specs.View.{policy_of}
use Rattle.zone_graph.specs.Grouped.{HasGroups, row_items}
use Rattle.group_expand.specs.Sets.{hosts_below}
use Rattle.group_expand.proofs.hosts.fill_rows.Given as goal

abbrev pub invariant-loop-h : goal.invariant-loop-h
invariant-loop-h l = HasGroups (λ h. h.0) (row_items l.rows) (hosts_below (policy_of l.topo) l.h)
