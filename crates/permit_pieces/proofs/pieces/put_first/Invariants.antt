use Rattle.std.proofs.Common.{◌≡◌, ◌++◌, map, length}
use Rattle.box_algebra.specs.Shown.{header_box_of}
use Rattle.permit_pieces.specs.Left.{parts_of}
use Rattle.permit_pieces.proofs.Leaving.{placed}
use Rattle.permit_pieces.proofs.pieces.put_first.Given as goal

abbrev pub invariant-loop-part : goal.invariant-loop-part
invariant-loop-part l =
    placed l.taken (map header_box_of l.parts.items) ++ parts_of l.waiting.items ≡ placed l.taken (map header_box_of l.fn.parts.items) ++ parts_of l.fn.waiting.items

abbrev pub decreases-loop-part : goal.decreases-loop-part
decreases-loop-part l = length l.parts.items
