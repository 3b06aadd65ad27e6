use Rattle.std.proofs.Common.{◌≡◌, ℕ, false, length}
use Rattle.nat_domains.specs.Marks.{is_marked}
use Rattle.nat_domains.proofs.spread.no_marks.Given as goal

abbrev pub invariant-loop : goal.invariant-loop
invariant-loop l = (length l.marks.items ≡ l.counter) × ((k : ℕ) → is_marked l.marks.items k ≡ false)
