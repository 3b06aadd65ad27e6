use Rattle.std.proofs.Common.{◌≡◌, ◌≤◌, length, map}
use Rattle.spoc_base.specs.Shown.{cidr_of}
use Rattle.subnet_tree.specs.Knots.{picked}
use Rattle.subnet_tree.specs.Shown.{knot_of, net_of}
use Rattle.subnet_tree.proofs.nodes.nets_in.Given as goal

abbrev pub invariant-loop-i : goal.invariant-loop-i
invariant-loop-i l = (l.i ≤ length l.nodes) × (map net_of l.found.items ≡ picked (cidr_of l.p) (map knot_of l.nodes) l.i)
