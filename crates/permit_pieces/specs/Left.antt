-- What denials leave of boxes, and the boxes that come up on the way.
use Rattle.std.specs.Prelude.{ℕ, suc, ◌&&◌, ◌==◌, List, [], ◌∷◌, map, filter, flat_map, drop, reverse}
use Rattle.std.specs.List.{sum_by}
use Rattle.spoc_base.specs.Pieces.{HeaderBox, difference}
use Rattle.policy_model.specs.Permits.{Permit, box_of_permit, permit_of_box}
use Rattle.box_algebra.specs.Shown.{header_box_of}
use Rattle.permit_pieces.specs.declared.pieces.Piece.{Piece}

-- The pieces of a box that denials leave: the first one's pieces, and of each what the others leave.
abbrev pub left_of : List HeaderBox → HeaderBox → List HeaderBox
left_of [] b = b ∷ []
left_of (d ∷ denials) b = flat_map (left_of denials) (difference b d)

-- how many boxes come up until all denials are taken from a box
abbrev pub work_of : List HeaderBox → HeaderBox → ℕ
work_of [] b = 1
work_of (d ∷ denials) b = suc (sum_by (work_of denials) (difference b d))

-- the boxes of the denials between two networks, in order
abbrev pub boxes_between : List Permit → ℕ → ℕ → List HeaderBox
boxes_between denials src dst = map box_of_permit (filter (λ d. (src == d.src.net) && (dst == d.dst.net)) denials)

-- what is left of a permit, by the denials between its two networks
abbrev pub left_between : (ℕ → ℕ → List HeaderBox) → Permit → List Permit
left_between table q = map (permit_of_box q) (left_of (table q.src.net q.dst.net) (box_of_permit q))

-- a box from which the first denials have been taken, and how many these are
abbrev pub Part : Type 0
Part = HeaderBox × ℕ

abbrev pub part_of : Piece → Part
part_of p = (header_box_of p.part, p.taken)

-- the last one comes first
abbrev pub parts_of : List Piece → List Part
parts_of stack = reverse (map part_of stack)

-- what the other denials leave of it
abbrev pub left_from : List HeaderBox → Part → List HeaderBox
left_from denials p = left_of (drop p.1 denials) p.0

abbrev pub work_from : List HeaderBox → Part → ℕ
work_from denials p = work_of (drop p.1 denials) p.0
