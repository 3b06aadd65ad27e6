use Rattle.std.proofs.Common.{◌≡◌, map, flat_map, take}
use Rattle.permit_set.specs.Shown.{permit_of}
use Rattle.permit_pieces.specs.Left.{left_between}
use Rattle.permit_pieces.specs.Rows.{table_of}
use Rattle.permit_pieces.proofs.pieces.left_by_rows.Given as goal

abbrev pub invariant-loop-q : goal.invariant-loop-q
invariant-loop-q l = map permit_of l.found.items ≡ take l.most (flat_map (left_between (table_of l.denials)) (map permit_of (take l.q-index l.permits)))
