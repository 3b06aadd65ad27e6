use Rattle.std.proofs.Common.{arith}
use Rattle.topology.specs.View.{policy_of}
use Rattle.group_expand.proofs.GroupOrder.{chains_begin, chains_more, chains_whole, grows_on, grows_none}
use Rattle.group_expand.proofs.group_sets.round.Goals as goal

pub loop-g-init : goal.loop-g-init
loop-g-init c =
    (c.requires.filled, grows_none c.args.done.now, chains_begin (policy_of c.args.base.now.topo) c.args.base.now.topo.kept.sound c.args.done.now)

pub loop-g-preserved : goal.loop-g-preserved
loop-g-preserved c =
    let p = policy_of c.args.base.now.topo in (
      c.in_ok-try_group.ensures.filled,
      grows_on c.args.done.now c.loop-g.done c.try_group.new.done c.loop-g.invariant.1 c.in_ok-try_group.ensures.grows,
      chains_more p c.args.base.now.topo.kept.sound c.args.done.now c.loop-g.done c.try_group.new.done c.loop-g.g (omega (arith, c.loop-g-test.true, c.group_count-g-end.ensures)) c.loop-g.invariant.1
          c.in_ok-try_group.ensures.grows c.in_ok-try_group.ensures.left c.loop-g.invariant.2,
    )

pub returns-clause-chains : goal.returns-clause-chains
returns-clause-chains c =
    let p = policy_of c.args.base.now.topo in
    chains_whole p c.args.base.now.topo.kept.sound c.args.done.now c.loop-g.done c.loop-g.g (omega (arith, c.loop-g-test.false, c.group_count-g-end.ensures)) c.loop-g.invariant.2
