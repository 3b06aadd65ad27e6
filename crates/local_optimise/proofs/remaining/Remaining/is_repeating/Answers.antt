use Rattle.std.proofs.Common.{◌∙◌, sym, ap}
use Rattle.dev_config.specs.Seen.{line_of}
use Rattle.local_optimise.specs.Held.{held_by, is_nearer, last_across}
use Rattle.local_optimise.proofs.Repeating.{repeated_of_held}
use Rattle.local_optimise.proofs.remaining.Remaining.is_repeating.Goals as goal

pub returns-in-Some : goal.returns-in-Some
returns-in-Some c =
    let held = held_by c.args.self.now.shelf in
    let l = line_of c.args.line.now in
    c.is_clear.ensures ∙ (ap (λ o. is_nearer o (last_across l held)) (sym c.in-Some.is ∙ c.nearest.ensures) ∙ sym (repeated_of_held l held))

pub returns-in-None : goal.returns-in-None
returns-in-None c =
    let held = held_by c.args.self.now.shelf in
    let l = line_of c.args.line.now in
    ap (λ o. is_nearer o (last_across l held)) (sym c.in-None.is ∙ c.nearest.ensures) ∙ sym (repeated_of_held l held)
