use Rattle.subnet_tree.proofs.Building.{AreNodes}
use Rattle.subnet_tree.proofs.nodes.nodes_of.Given as goal

abbrev pub invariant-loop-item : goal.invariant-loop-item
invariant-loop-item l = AreNodes l.sorted l.item-index l.nodes.items
