use Rattle.std.proofs.Common.{◌∙◌, map, sym, arith}
use Rattle.box_algebra.specs.Shown.{header_box_of}
use Rattle.permit_pieces.proofs.Leaving.{denial_at, skip_left, skip_work}
use Rattle.permit_pieces.proofs.pieces.next_meeting.Goals as goal

pub loop-next-preserved : goal.loop-next-preserved
loop-next-preserved c =
    let ds = map header_box_of c.args.denials.now in
    let b = header_box_of c.args.part.now in
    let d = c.index-denials-next.result in
    let k = c.loop-next.next in
    let e = denial_at c.args.denials.now k d c.loop-next-test.true c.index-denials-next.is in
    let apart = sym c.meets.ensures.test ∙ c.if-not-meets.true in
    let less = skip_work ds k b (header_box_of d) e apart in
    (c.loop-next.invariant.0 ∙ skip_left ds k b (header_box_of d) e apart, omega (arith, less, c.loop-next.invariant.1))
