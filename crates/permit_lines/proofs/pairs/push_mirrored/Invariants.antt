use Rattle.std.proofs.Common.{◌≡◌, map, flat_map, drop, ◌++◌}
use Rattle.permit_set.specs.Shown.{permit_of}
use Rattle.nat_view.specs.Sights.{sight_of}
use Rattle.permit_lines.specs.Pieces.{mirrored_lines}
use Rattle.permit_lines.specs.Seen.{lines_of_covers}
use Rattle.permit_lines.proofs.pairs.push_mirrored.Given as goal

abbrev pub invariant-loop-k : goal.invariant-loop-k
invariant-loop-k l =
    lines_of_covers l.covers.items ++ flat_map (mirrored_lines (sight_of l.view).policy (sight_of l.view).tags (map permit_of l.permits)) (drop l.k-index l.numbers)
    ≡ lines_of_covers l.initial.covers.items ++ flat_map (mirrored_lines (sight_of l.view).policy (sight_of l.view).tags (map permit_of l.permits)) l.numbers
