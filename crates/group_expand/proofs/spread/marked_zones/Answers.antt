use Rattle.std.proofs.Common.{arith, length}
use Rattle.std.specs.Prelude.{filter}
use Rattle.policy_model.specs.Lists.{numbers_below}
use Rattle.group_expand.specs.Seen.{numbers_of}
use Rattle.group_expand.specs.Spread.{marked}
use Rattle.group_expand.proofs.Marks.{pushed}
use Rattle.group_expand.proofs.spread.marked_zones.Goals as goal

pub loop-z-preserved : goal.loop-z-preserved
loop-z-preserved c =
    let seen = c.args.seen.now in
    pushed (marked seen) c.loop-z.z (length seen) (numbers_of c.loop-z.zones.items) (numbers_of c.push_marked.new.zones.items) (filter (marked seen) (numbers_below (length seen)))
    (omega (arith, c.loop-z-test.true)) c.in_ok-push_marked.ensures c.loop-z.invariant
