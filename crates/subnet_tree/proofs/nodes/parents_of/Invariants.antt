use Rattle.std.proofs.Common.{◌≡◌, ℕ, map, option_map, nat_eq}
use Rattle.std.specs.HashMap.{get}
use Rattle.subnet_tree.specs.Knots.{assigned}
use Rattle.subnet_tree.specs.Shown.{knot_of, net_of}
use Rattle.subnet_tree.proofs.nodes.parents_of.Given as goal

abbrev pub invariant-loop-node : goal.invariant-loop-node
invariant-loop-node l = (n : ℕ) → option_map net_of (get nat_eq l.parents n) ≡ assigned (map knot_of l.nodes) n l.node-index
