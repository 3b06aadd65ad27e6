use Rattle.std.proofs.Common.{◌≡◌, ℕ, ◌<◌, [], length, take, slice_index_or}
use Rattle.zone_graph.specs.Grouped.{row_items}
use Rattle.rule_distribute.specs.Paths.{with_entered}
use Rattle.rule_distribute.proofs.paths.add_pair.Given as goal

abbrev pub invariant-loop-crossing : goal.invariant-loop-crossing
invariant-loop-crossing l = record {
  each : length l.rows ≡ length l.fn.rows;
  entered : (i : ℕ) → i < length l.fn.rows → slice_index_or (row_items l.rows) i [] ≡ with_entered (take l.crossing-index l.crossings) l.w i (slice_index_or (row_items l.fn.rows) i []);
}
