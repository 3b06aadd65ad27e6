use Rattle.zone_graph.specs.Grouped.{AreEmpty, row_items}
use Rattle.rule_distribute.proofs.rows.empty_rows.Given as goal

abbrev pub invariant-loop : goal.invariant-loop
invariant-loop g l = AreEmpty (row_items l.rows.items) l.counter
