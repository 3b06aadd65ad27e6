use Rattle.std.proofs.Common.{◌≡◌, map}
use Rattle.subnet_tree.specs.Shown.{entry_of}
use Rattle.nat_view.specs.Shown.{cidrs_of}
use Rattle.nat_view.specs.Tables.{entries_below}
use Rattle.nat_view.proofs.table.items_of.Given as goal

abbrev pub invariant-loop-n : goal.invariant-loop-n
invariant-loop-n l = map entry_of l.items.items ≡ entries_below (cidrs_of l.seen) l.n
