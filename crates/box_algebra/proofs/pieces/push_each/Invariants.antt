use Rattle.std.proofs.Common.{◌≡◌, ◌++◌, map, take}
use Rattle.spoc_base.specs.Shown.{interval_of, box_of}
use Rattle.spoc_base.specs.Pieces.{box_between}
use Rattle.box_algebra.specs.Shown.{header_box_of}
use Rattle.box_algebra.proofs.pieces.push_each.Given as goal

abbrev pub invariant-loop-t : goal.invariant-loop-t
invariant-loop-t l = map header_box_of l.pieces.items ≡ map header_box_of l.fn.pieces.items ++ map (box_between (interval_of l.src) (interval_of l.dst)) (map box_of (take l.t-index l.left))
