use Rattle.std.proofs.Common.{◌≡◌, length}
use Rattle.zone_graph.specs.Grouped.{HasGroups, row_items, nets_below}
use Rattle.zone_graph.proofs.groups.fill_nets.Given as goal

abbrev pub invariant-loop-n : goal.invariant-loop-n
invariant-loop-n l = (length l.rows ≡ length l.fn.rows) × HasGroups (λ n. n.0) (row_items l.rows) (nets_below l.zones l.n)
