use Rattle.std.proofs.Common.{refl, arith}
use Rattle.view_faults.proofs.Counting.{seen_more, seen_few}
use Rattle.view_faults.proofs.count.has_too_many.Goals as goal

pub returns-then-count-gt-MOST_VIEWS : goal.returns-then-count-gt-MOST_VIEWS
returns-then-count-gt-MOST_VIEWS c =
    let v = c.args.tags.now in
    let below = c.loop-k-test.true in
    let count = c.requires.count in
    let more = seen_more v c.loop-k.seen c.add.new.self _ c.loop-k.k c.loop-k.invariant.0 (omega (arith, below, count)) c.row_at.ensures c.in_ok-add.ensures in
    let few = seen_few v c.add.new.self _ more in
    let long = c.if-count-gt-MOST_VIEWS.true in
    let is = c.count.ensures in
    (λ t. omega (arith, few, long, is), λ h. refl)
