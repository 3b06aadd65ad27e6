use Rattle.std.proofs.Common.{◌≡◌, ◌++◌, map}
use Rattle.spoc_base.specs.Shown.{box_of}
use Rattle.spoc_base.specs.Pieces.{whole_left}
use Rattle.box_algebra.proofs.Loops.{so_far}
use Rattle.box_algebra.proofs.pieces.push_protocols.Given as goal

abbrev pub invariant-loop-n : goal.invariant-loop-n
invariant-loop-n l = map box_of l.left.items ≡ map box_of l.fn.left.items ++ so_far (whole_left (box_of l.b)) 1 l.n
