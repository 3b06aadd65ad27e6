use Rattle.std.proofs.Common.{◌≡◌, ◌-◌, ◌≤◌, map, length, option_map}
use Rattle.subnet_tree.specs.Entries.{least_of_neighbours}
use Rattle.subnet_tree.specs.Shown.{entry_of, pair_of}
use Rattle.subnet_tree.proofs.order.least_same.Given as goal

abbrev pub invariant-loop-i : goal.invariant-loop-i
invariant-loop-i l = (l.i - 1 ≤ length l.sorted - 1) × (option_map pair_of l.least ≡ least_of_neighbours (map entry_of l.sorted) (l.i - 1))
