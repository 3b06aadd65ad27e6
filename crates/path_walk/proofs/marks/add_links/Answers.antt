use Rattle.path_walk.proofs.Marking.{with_one_more, link_more}
use Rattle.path_walk.proofs.marks.add_links.Goals as goal

pub loop-k-preserved : goal.loop-k-preserved
loop-k-preserved c =
    with_one_more c.args.pairs.now.keys c.loop-k.pairs.keys c.add.new.pairs.keys _ _ _ c.loop-k.invariant
    (link_more c.args.path.now c.loop-k.k (record { enter = record { 0 = 0 }; leave = record { 0 = 0 } }) c.loop-k.auto.k c.loop-k-test.true) c.in_ok-add.ensures
