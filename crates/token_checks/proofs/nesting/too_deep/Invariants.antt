use Rattle.std.proofs.Common.{◌≡◌, ℕ, ◌<◌, ◌≤◌, false}
use Rattle.token_checks.specs.Places.{toks_of}
use Rattle.token_checks.specs.Nesting.{most_levels, level_at, is_too_deep_at}
use Rattle.token_checks.proofs.nesting.too_deep.Given as goal

abbrev pub invariant-loop-place : goal.invariant-loop-place
invariant-loop-place l =
    (l.level ≡ level_at (toks_of l.tokens) l.place)
    × (l.level ≤ most_levels)
    × ((other : ℕ) → other < l.place → is_too_deep_at (toks_of l.tokens) other ≡ false)
