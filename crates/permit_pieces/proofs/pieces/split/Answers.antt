use Rattle.std.proofs.Common.{map}
use Rattle.box_algebra.specs.Shown.{header_box_of}
use Rattle.permit_pieces.specs.Left.{parts_of}
use Rattle.permit_pieces.proofs.Leaving.{denial_at, past_all, split_left, split_work, last_left, last_work}
use Rattle.permit_pieces.proofs.pieces.split.Goals as goal

pub returns-then-next-denials-clause-left : goal.returns-then-next-denials-clause-left
returns-then-next-denials-clause-left c =
    last_left (map header_box_of c.args.denials.now) (header_box_of c.args.piece.part) c.args.piece.taken c.next_meeting-next.result (parts_of c.args.waiting.now.items) c.next_meeting-next.ensures.left
    (past_all c.args.denials.now c.next_meeting-next.result c.if-next-denials.true)

pub returns-then-next-denials-clause-work : goal.returns-then-next-denials-clause-work
returns-then-next-denials-clause-work c =
    last_work (map header_box_of c.args.denials.now) (header_box_of c.args.piece.part) c.args.piece.taken c.next_meeting-next.result (parts_of c.args.waiting.now.items) c.next_meeting-next.ensures.work
    (past_all c.args.denials.now c.next_meeting-next.result c.if-next-denials.true)

pub returns-clause-left : goal.returns-clause-left
returns-clause-left c =
    let k = c.next_meeting-next.result in
    let d = c.index-denials-next.result in
    split_left (map header_box_of c.args.denials.now) (header_box_of c.args.piece.part) c.args.piece.taken k (parts_of c.args.waiting.now.items) (header_box_of d) (map header_box_of c.in_ok-parts.field-0.items)
    (parts_of c.put_first.new.waiting.items) c.next_meeting-next.ensures.left (denial_at c.args.denials.now k d c.if-next-denials.false c.index-denials-next.is) c.in_ok-parts.ensures c.in_ok-put_first.ensures

pub returns-clause-work : goal.returns-clause-work
returns-clause-work c =
    let k = c.next_meeting-next.result in
    let d = c.index-denials-next.result in
    split_work (map header_box_of c.args.denials.now) (header_box_of c.args.piece.part) c.args.piece.taken k (parts_of c.args.waiting.now.items) (header_box_of d) (map header_box_of c.in_ok-parts.field-0.items)
    (parts_of c.put_first.new.waiting.items) c.next_meeting-next.ensures.work (denial_at c.args.denials.now k d c.if-next-denials.false c.index-denials-next.is) c.in_ok-parts.ensures c.in_ok-put_first.ensures
