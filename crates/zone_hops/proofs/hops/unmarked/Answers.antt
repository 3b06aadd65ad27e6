use Rattle.group_expand.proofs.Marks.{one_unmarked}
use Rattle.zone_hops.proofs.hops.unmarked.Goals as goal

pub loop-preserved : goal.loop-preserved
loop-preserved c = one_unmarked c.loop.marks.items c.push.new.self.items c.loop.counter c.in_ok-push.ensures.items c.loop.invariant
