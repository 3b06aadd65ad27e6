use Rattle.std.proofs.Common.{◌≡◌, length, drop}
use Rattle.topology.specs.View.{policy_of}
use Rattle.group_expand.specs.Seen.{iface_numbers}
use Rattle.group_expand.proofs.Marks.{MarksSoFar}
use Rattle.group_expand.proofs.spread.mark.Given as goal

abbrev pub invariant-loop-i : goal.invariant-loop-i
invariant-loop-i l =
    (length l.marks.items ≡ length (policy_of l.fn.topo).ifaces) × MarksSoFar l.marks.items (drop l.i-index (iface_numbers l.ifaces)) (iface_numbers l.ifaces)
