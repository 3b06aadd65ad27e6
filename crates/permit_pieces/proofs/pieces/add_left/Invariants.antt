use Rattle.std.proofs.Common.{◌≡◌, ◌≤◌, ◌++◌, length, map, take}
use Rattle.std.specs.List.{sum_by}
use Rattle.policy_model.specs.Permits.{box_of_permit, permit_of_box}
use Rattle.box_algebra.specs.Shown.{header_box_of}
use Rattle.permit_set.specs.Shown.{permit_of}
use Rattle.permit_pieces.specs.Left.{left_of, parts_of, work_from}
use Rattle.permit_pieces.proofs.Leaving.{to_come}
use Rattle.permit_pieces.proofs.pieces.add_left.Given as goal

abbrev pub invariant-loop-piece : goal.invariant-loop-piece
invariant-loop-piece l =
    (take l.most (map permit_of l.found.items ++ to_come (permit_of l.q) (map header_box_of l.denials) (parts_of l.waiting.items))
    ≡ take l.most (map permit_of l.fn.found.items ++ map (permit_of_box (permit_of l.q)) (left_of (map header_box_of l.denials) (box_of_permit (permit_of l.q)))))
    × (length l.found.items ≤ l.most)

abbrev pub decreases-loop-piece : goal.decreases-loop-piece
decreases-loop-piece l = sum_by (work_from (map header_box_of l.denials)) (parts_of l.waiting.items)
