use Rattle.group_expand.specs.Seen.{site_of, rows_of}
use Rattle.group_expand.specs.Areas.{AreFirstRows}
use Rattle.group_expand.proofs.area_table.areas.Given as goal

abbrev pub invariant-loop-k : goal.invariant-loop-k
invariant-loop-k l = AreFirstRows (site_of l.topo l.graph) (rows_of l.rows.items) l.k
