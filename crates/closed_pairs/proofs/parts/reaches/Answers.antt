use Rattle.std.proofs.Common.{◌∙◌}
use Rattle.permit_lines.specs.Seen.{lines_of_covers}
use Rattle.closed_pairs.specs.Seen.{line_seen, ends_seen}
use Rattle.closed_pairs.proofs.Parted.{reaches_whole, one_permits}
use Rattle.closed_pairs.proofs.parts.reaches.Goals as goal

pub returns-in-Some : goal.returns-in-Some
returns-in-Some c =
    let part = c.in-Some.part in
    let own = c.args.own.now in
    reaches_whole (lines_of_covers own) (ends_seen c.args.ends) (line_seen c.args.line.now) part c.is_covered.result c.in-Some.ensures (c.is_covered.ensures ∙ one_permits part own)
