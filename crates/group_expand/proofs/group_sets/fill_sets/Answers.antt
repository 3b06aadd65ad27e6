use Rattle.std.proofs.Common.{arith}
use Rattle.topology.specs.View.{policy_of}
use Rattle.group_expand.proofs.GroupOrder.{chains_of_one, all_done}
use Rattle.group_expand.proofs.group_sets.fill_sets.Goals as goal

pub loop-init : goal.loop-init
loop-init c = (c.requires.filled, chains_of_one (policy_of c.args.base.now.topo) c.args.base.now.topo.kept.sound c.args.done.now)

pub loop-preserved : goal.loop-preserved
loop-preserved c = (c.in_ok-round.ensures.filled, c.in_ok-round.ensures.chains c.loop.counter c.loop.invariant.1)

pub returns-clause-all : goal.returns-clause-all
returns-clause-all c =
    all_done (policy_of c.args.base.now.topo) c.args.base.now.topo.kept.sound c.loop.done c.loop.counter (omega (arith, c.loop-test.false)) c.loop.invariant.1
