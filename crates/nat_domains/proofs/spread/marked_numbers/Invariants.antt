use Rattle.std.proofs.Common.{◌≡◌, ◌<◌, ℕ, true}
use Rattle.policy_model.specs.Lists.{has}
use Rattle.nat_domains.specs.Marks.{is_marked}
use Rattle.nat_domains.proofs.spread.marked_numbers.Given as goal

abbrev pub invariant-loop-k : goal.invariant-loop-k
invariant-loop-k l =
    ((x : ℕ) → has l.numbers.items x ≡ true → is_marked l.marks x ≡ true) × ((x : ℕ) → x < l.k → is_marked l.marks x ≡ true → has l.numbers.items x ≡ true)
