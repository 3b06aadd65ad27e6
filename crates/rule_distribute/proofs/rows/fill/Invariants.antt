use Rattle.std.proofs.Common.{◌≡◌, length, map}
use Rattle.zone_graph.specs.Grouped.{HasGroups, row_items}
use Rattle.permit_set.specs.Shown.{permit_of}
use Rattle.rule_distribute.specs.Rows.{row_below}
use Rattle.rule_distribute.proofs.rows.fill.Given as goal

abbrev pub invariant-loop-k : goal.invariant-loop-k
invariant-loop-k l = (length l.rows ≡ length l.fn.rows) × HasGroups (λ k. k) (row_items l.rows) (row_below l.graph.zones l.pairs l.back (map permit_of l.permits) l.k)
