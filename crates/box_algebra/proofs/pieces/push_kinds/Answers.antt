use Rattle.std.proofs.Common.{map, arith}
use Rattle.spoc_base.specs.Shown.{box_of}
use Rattle.spoc_base.specs.Pieces.{kind_left}
use Rattle.box_algebra.proofs.Loops.{nothing_yet, one_more, all_bytes_given}
use Rattle.box_algebra.proofs.pieces.push_kinds.Goals as goal

pub returns : goal.returns
returns c = all_bytes_given (kind_left c.args.kind c.args.code) c.loop-n.n (map box_of c.args.left.now.items) (map box_of c.loop-n.left.items) c.loop-n-test.false c.loop-n.auto.n-end c.loop-n.invariant

pub loop-n-init : goal.loop-n-init
loop-n-init c = nothing_yet (kind_left c.args.kind c.args.code) 0 (map box_of c.args.left.now.items)

pub loop-n-preserved : goal.loop-n-preserved
loop-n-preserved c =
    one_more (kind_left c.args.kind c.args.code) 0 c.loop-n.n (map box_of c.args.left.now.items) (map box_of c.loop-n.left.items) (map box_of c.push_kind.new.left.items)
    (omega arith) c.loop-n.invariant (c.in_ok-push_kind.ensures {u = tt})
