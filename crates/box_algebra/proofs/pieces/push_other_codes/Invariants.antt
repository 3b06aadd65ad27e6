use Rattle.std.proofs.Common.{◌≡◌, ◌++◌, map}
use Rattle.spoc_base.specs.Shown.{box_of}
use Rattle.spoc_base.specs.Pieces.{other_code}
use Rattle.box_algebra.proofs.Loops.{so_far}
use Rattle.box_algebra.proofs.pieces.push_other_codes.Given as goal

abbrev pub invariant-loop-n : goal.invariant-loop-n
invariant-loop-n l = map box_of l.left.items ≡ map box_of l.fn.left.items ++ so_far (other_code l.kind l.code) 0 l.n
