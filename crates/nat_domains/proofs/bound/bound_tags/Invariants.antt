use Rattle.std.proofs.Common.{◌≡◌, length}
use Rattle.topology.specs.View.{policy_of}
use Rattle.nat_domains.specs.Bound.{AreBoundMarked}
use Rattle.nat_domains.proofs.bound.bound_tags.Given as goal

abbrev pub invariant-loop-i : goal.invariant-loop-i
invariant-loop-i l = (length l.marks.items ≡ length (policy_of l.topo).tags) × AreBoundMarked (policy_of l.topo) l.i l.marks.items
