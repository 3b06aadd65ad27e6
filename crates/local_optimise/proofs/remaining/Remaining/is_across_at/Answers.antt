use Rattle.std.proofs.Common.{◌∙◌, sym, ap, arith}
use Rattle.std.proofs.lemmas.List.{length-map}
use Rattle.dev_config.specs.Seen.{line_of}
use Rattle.local_optimise.specs.Held.{held_by, is_across}
use Rattle.local_optimise.proofs.Repeating.{known_across}
use Rattle.local_optimise.proofs.remaining.Remaining.is_across_at.Goals as goal

pub returns : goal.returns
returns c = λ t.
    let held = held_by c.args.self.now.shelf in
    let l = line_of c.args.line.now in
    known_across l held c.args.floor c.args.place (omega (arith, c.if-len-place.false, c.len.ensures, length-map c.args.self.now.shelf.lines.items line_of)) c.if-place-floor.false (ap (is_across l) (sym c.at.ensures) ∙ (sym c.is_crossing.ensures ∙ t))
