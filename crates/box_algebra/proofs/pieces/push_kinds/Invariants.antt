use Rattle.std.proofs.Common.{◌≡◌, ◌++◌, map}
use Rattle.spoc_base.specs.Shown.{box_of}
use Rattle.spoc_base.specs.Pieces.{kind_left}
use Rattle.box_algebra.proofs.Loops.{so_far}
use Rattle.box_algebra.proofs.pieces.push_kinds.Given as goal

abbrev pub invariant-loop-n : goal.invariant-loop-n
invariant-loop-n l = map box_of l.left.items ≡ map box_of l.fn.left.items ++ so_far (kind_left l.kind l.code) 0 l.n
