use Rattle.std.proofs.Common.{map, take}
use Rattle.permit_set.specs.Shown.{permit_of}
use Rattle.nat_view.specs.Sights.{sight_of}
use Rattle.closed_pairs.specs.Seen.{pair_seen}
use Rattle.closed_pairs.specs.Reaching.{is_closed_among}
use Rattle.closed_pairs.specs.Flags.{AreFlags}
use Rattle.closed_pairs.proofs.closing.closed_among.Given as goal

abbrev pub invariant-loop-outer : goal.invariant-loop-outer
invariant-loop-outer l =
    let sight = sight_of l.view in
    AreFlags (is_closed_among sight.policy sight.tags (map permit_of l.permits) (map pair_seen (take l.outer-index l.pairs))) (map pair_seen l.pairs) l.flags.items
