use Rattle.std.proofs.Common.{◌≡◌, ◌<◌, ℕ}
use Rattle.nat_view.specs.Places.{tags_at}
use Rattle.nat_view.specs.Shown.{numbers_of}
use Rattle.nat_view.proofs.build.find.Given as goal

abbrev pub invariant-loop-k : goal.invariant-loop-k
invariant-loop-k l = (k : ℕ) → k < l.k → tags_at l.tables k ≡ numbers_of l.tags → ⊥
