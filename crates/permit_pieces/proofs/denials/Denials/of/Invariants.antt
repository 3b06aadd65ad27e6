use Rattle.std.proofs.Common.{◌≡◌, ℕ, map, take}
use Rattle.permit_set.specs.Shown.{permit_of}
use Rattle.permit_pieces.specs.Left.{boxes_between}
use Rattle.permit_pieces.specs.Rows.{table_of}
use Rattle.permit_pieces.proofs.denials.Denials.of.Given as goal

abbrev pub invariant-loop-d : goal.invariant-loop-d
invariant-loop-d l = (src dst : ℕ) → table_of l.denials src dst ≡ boxes_between (map permit_of (take l.d-index l.list)) src dst
