use Rattle.std.proofs.Common.{below_more, ◌∙◌, sym}
use Rattle.token_checks.specs.Places.{toks_of}
use Rattle.token_checks.specs.Nesting.{level_at, opens_beyond}
use Rattle.token_checks.proofs.Standing.{passes_nowhere}
use Rattle.token_checks.proofs.Levels.{one_more, stays_low, fails_here}
use Rattle.token_checks.proofs.nesting.too_deep.Goals as goal

pub loop-place-preserved : goal.loop-place-preserved
loop-place-preserved c =
    let tokens = c.args.tokens.now in
    let low = sym c.opens_beyond.ensures ∙ c.if-opens_beyond.false in (
      c.level_behind-level.ensures ∙ one_more tokens c.loop-place.place _ c.loop-place.level c.loop-place-test.true c.loop-place.invariant.0,
      stays_low tokens c.loop-place.place _ c.level_behind-level.result c.loop-place.level c.level_behind-level.ensures c.loop-place.invariant.1 low,
      below_more _ _ c.loop-place.invariant.2 (fails_here tokens c.loop-place.place _ c.loop-place.level c.loop-place-test.true c.loop-place.invariant.0 low),
    )

pub returns-clause-none : goal.returns-clause-none
returns-clause-none c =
    let toks = toks_of c.args.tokens.now in
    passes_nowhere (λ place. opens_beyond (level_at toks place)) c.args.tokens.now c.loop-place.place c.loop-place-test.false c.loop-place.invariant.2
