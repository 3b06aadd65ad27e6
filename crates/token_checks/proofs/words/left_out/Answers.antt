use Rattle.std.proofs.Common.{below_more, ◌∙◌, sym}
use Rattle.token_checks.specs.Places.{token_before, second_before, toks_of}
use Rattle.token_checks.specs.LeftOut.{is_left_out}
use Rattle.token_checks.proofs.Standing.{passes_nowhere}
use Rattle.token_checks.proofs.words.left_out.Goals as goal

pub loop-place-preserved : goal.loop-place-preserved
loop-place-preserved c = below_more _ _ c.loop-place.invariant (sym c.is_left_out_at.ensures ∙ c.if-is_left_out_at.false)

pub returns-clause-none : goal.returns-clause-none
returns-clause-none c =
    let toks = toks_of c.args.tokens.now in
    passes_nowhere (λ place. is_left_out (second_before toks place) (token_before toks place)) c.args.tokens.now c.loop-place.place c.loop-place-test.false c.loop-place.invariant
