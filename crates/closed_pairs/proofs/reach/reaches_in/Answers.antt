use Rattle.std.proofs.Common.{ap, map, ◌∙◌}
use Rattle.permit_set.specs.Shown.{permit_of}
use Rattle.nat_view.specs.Sights.{sight_of}
use Rattle.permit_lines.specs.Seen.{lines_of_covers}
use Rattle.closed_pairs.specs.Seen.{pair_seen, ends_seen}
use Rattle.closed_pairs.specs.Reaching.{lines_between, ends_between}
use Rattle.closed_pairs.proofs.Parted.{reached}
use Rattle.closed_pairs.proofs.reach.reaches_in.Goals as goal

pub returns : goal.returns
returns c =
    let sight = sight_of c.args.view in
    let permits = map permit_of c.args.permits.now in
    let inner = pair_seen c.args.inner.now in
    reached c.any_reaches.result (lines_of_covers c.deref.result.now) c.args.lines.now (ends_seen c.ends_in.result) (ends_between sight.policy sight.tags inner.pair)
    (lines_between sight.policy sight.tags permits inner) c.any_reaches.ensures c.ends_in.ensures (ap lines_of_covers c.deref.ensures.value ∙ c.in_ok-own.ensures)
