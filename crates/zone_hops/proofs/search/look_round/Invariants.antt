use Rattle.std.proofs.Common.{drop}
use Rattle.topology.specs.View.{policy_of}
use Rattle.group_expand.specs.Seen.{iface_numbers}
use Rattle.zone_hops.specs.Search.{numbers_of, Grown, KeepsRow}
use Rattle.zone_hops.proofs.search.look_round.Given as goal

abbrev pub invariant-loop-i : goal.invariant-loop-i
invariant-loop-i l =
    Grown l.fn.passed (numbers_of l.fn.left.items) l.passed (numbers_of l.left.items)
    × KeepsRow (policy_of l.topo) l.fn.n.0 l.fn.passed (numbers_of l.fn.left.items) (iface_numbers l.row) l.passed (numbers_of l.left.items) (drop l.i-index (iface_numbers l.row))
