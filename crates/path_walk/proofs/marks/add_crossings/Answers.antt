use Rattle.path_walk.proofs.Marking.{with_one_more, crossing_more}
use Rattle.path_walk.proofs.marks.add_crossings.Goals as goal

pub loop-step-preserved : goal.loop-step-preserved
loop-step-preserved c =
    with_one_more c.args.pairs.now.keys c.loop-step.pairs.keys c.add.new.pairs.keys _ _ _ c.loop-step.invariant
    (crossing_more c.args.path.now c.loop-step.step-index (record { enter = record { 0 = 0 }; leave = record { 0 = 0 } }) c.loop-step-test.true) c.in_ok-add.ensures
