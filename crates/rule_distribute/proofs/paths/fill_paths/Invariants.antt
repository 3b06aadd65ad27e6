use Rattle.std.proofs.Common.{◌≡◌, length}
use Rattle.topology.specs.View.{policy_of}
use Rattle.zone_graph.specs.Grouped.{HasGroups, row_items}
use Rattle.permit_lines.specs.Given.{site_with}
use Rattle.rule_distribute.specs.Paths.{path_row}
use Rattle.rule_distribute.proofs.paths.fill_paths.Given as goal

abbrev pub invariant-loop-w : goal.invariant-loop-w
invariant-loop-w l = record {
  each : length l.rows ≡ length l.fn.rows;
  groups : HasGroups (λ w. w) (row_items l.rows) (path_row (site_with (policy_of l.topo) l.graph) l.pairs l.w);
}
