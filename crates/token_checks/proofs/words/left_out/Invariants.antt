use Rattle.std.proofs.Common.{◌≡◌, ℕ, ◌<◌, false}
use Rattle.token_checks.specs.Places.{toks_of}
use Rattle.token_checks.specs.LeftOut.{is_left_out_at}
use Rattle.token_checks.proofs.words.left_out.Given as goal

abbrev pub invariant-loop-place : goal.invariant-loop-place
invariant-loop-place l = (other : ℕ) → other < l.place → is_left_out_at (toks_of l.tokens) other ≡ false
