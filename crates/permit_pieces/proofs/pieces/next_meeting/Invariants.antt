use Rattle.std.proofs.Common.{◌≡◌, ◌≤◌, ◌-◌, map, length}
use Rattle.box_algebra.specs.Shown.{header_box_of}
use Rattle.permit_pieces.specs.Left.{left_from, work_from}
use Rattle.permit_pieces.proofs.pieces.next_meeting.Given as goal

abbrev pub invariant-loop-next : goal.invariant-loop-next
invariant-loop-next l =
    (left_from (map header_box_of l.denials) (header_box_of l.part, l.from) ≡ left_from (map header_box_of l.denials) (header_box_of l.part, l.next))
    × (work_from (map header_box_of l.denials) (header_box_of l.part, l.next) ≤ work_from (map header_box_of l.denials) (header_box_of l.part, l.from))

abbrev pub decreases-loop-next : goal.decreases-loop-next
decreases-loop-next l = length l.denials - l.next
