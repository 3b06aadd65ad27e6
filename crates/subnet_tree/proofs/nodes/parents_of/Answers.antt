use Rattle.std.proofs.Common.{nat_eq, option_map}
use Rattle.std.specs.HashMap.{get}
use Rattle.subnet_tree.specs.Shown.{net_of}
use Rattle.subnet_tree.proofs.Building.{above_below, assigned_next}
use Rattle.subnet_tree.proofs.nodes.parents_of.Goals as goal

pub put_above-requires : goal.put_above-requires
put_above-requires c = above_below c.args.nodes.now c.loop-node.node-index c.node-item.result c.requires c.loop-node-test.true c.node-item.is

pub loop-node-preserved : goal.loop-node-preserved
loop-node-preserved c = λ n.
    assigned_next c.args.nodes.now c.loop-node.node-index c.node-item.result n (option_map net_of (get nat_eq c.loop-node.parents n)) (option_map net_of (get nat_eq c.put_above.new.parents n))
    c.loop-node-test.true c.node-item.is (c.loop-node.invariant n) (c.in_ok-put_above.ensures {u = tt} n)
