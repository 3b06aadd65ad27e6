use Rattle.std.proofs.Common.{◌+◌, map}
use Rattle.spoc_base.specs.Address.{cover_of}
use Rattle.spoc_base.specs.Shown.{cidr_of, interval_of}
use Rattle.box_algebra.proofs.Covering.{next, nothing_left, made_is_fewest}
use Rattle.box_algebra.proofs.cover.cover_range.Goals as goal

pub loop-low-preserved : goal.loop-low-preserved
loop-low-preserved c =
    let i = c.loop-low.invariant in
    let w = next c.loop-low.low c.args.r.hi.0 (c.from-end.result + 1) c.largest_block-bits.result c.size-low.result c.loop-low.cover.items c.block.result c.push.new.self.items
    (cover_of (interval_of c.args.r)) i.0 i.1 c.largest_block-bits.ensures c.size-low.ensures.value (c.in_ok-push.ensures {u = tt}).items c.block.ensures i.3 in
    (i.0, i.1, w.0, w.1)

pub returns-clause-cover : goal.returns-clause-cover
returns-clause-cover c =
    let i = c.loop-low.invariant in
    nothing_left c.loop-low.low c.args.r.hi.0 (c.from-end.result + 1) (map cidr_of c.loop-low.cover.items) (cover_of (interval_of c.args.r)) i.0 c.loop-low-test.false i.3

pub returns-clause-fewest : goal.returns-clause-fewest
returns-clause-fewest c =
    let i = c.loop-low.invariant in
    made_is_fewest (interval_of c.args.r) (map cidr_of c.loop-low.cover.items)
    (nothing_left c.loop-low.low c.args.r.hi.0 (c.from-end.result + 1) (map cidr_of c.loop-low.cover.items) (cover_of (interval_of c.args.r)) i.0 c.loop-low-test.false i.3)
