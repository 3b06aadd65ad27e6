use Rattle.std.proofs.Common.{map, arith}
use Rattle.spoc_base.specs.Shown.{box_of}
use Rattle.spoc_base.specs.Pieces.{whole_left}
use Rattle.box_algebra.proofs.Loops.{nothing_yet, one_more, all_protocols_given}
use Rattle.box_algebra.proofs.pieces.push_protocols.Goals as goal

pub returns : goal.returns
returns c = all_protocols_given (whole_left (box_of c.args.b)) c.loop-n.n (map box_of c.args.left.now.items) (map box_of c.loop-n.left.items) c.loop-n-test.false (omega arith) c.loop-n.invariant

pub loop-n-init : goal.loop-n-init
loop-n-init c = nothing_yet (whole_left (box_of c.args.b)) 1 (map box_of c.args.left.now.items)

pub loop-n-preserved : goal.loop-n-preserved
loop-n-preserved c =
    one_more (whole_left (box_of c.args.b)) 1 c.loop-n.n (map box_of c.args.left.now.items) (map box_of c.loop-n.left.items) (map box_of c.push_whole.new.left.items)
    (omega arith) c.loop-n.invariant (c.in_ok-push_whole.ensures {u = tt})
