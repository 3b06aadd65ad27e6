use Rattle.static_routes.proofs.Adding.{with_through}
use Rattle.static_routes.proofs.gather.add_through.Goals as goal

pub loop-next-preserved : goal.loop-next-preserved
loop-next-preserved c =
    with_through c.args.r.0 c.args.v.0 c.args.out.0 c.args.nexts.now c.loop-next.next-index (record { 0 = 0 }) c.args.found.now.keys c.loop-next.found.keys c.add.new.found.keys c.loop-next-test.true c.loop-next.invariant
    c.in_ok-add.ensures
