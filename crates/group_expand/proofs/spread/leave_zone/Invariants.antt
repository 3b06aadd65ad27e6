use Rattle.std.proofs.Common.{drop}
use Rattle.group_expand.specs.Seen.{site_of, numbers_of, iface_numbers}
use Rattle.group_expand.specs.Spread.{Goes}
use Rattle.group_expand.proofs.spread.leave_zone.Given as goal

abbrev pub invariant-loop-i : goal.invariant-loop-i
invariant-loop-i l =
    let s = site_of l.topo l.graph in
    Goes s l.marks l.fn.z.0 l.fn.seen l.fn.passed (numbers_of l.fn.left.items) (iface_numbers l.row) l.seen l.passed (numbers_of l.left.items) (drop l.i-index (iface_numbers l.row))
