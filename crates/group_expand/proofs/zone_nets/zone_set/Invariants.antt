use Rattle.std.proofs.Common.{◌≡◌, ◌||◌, ℕ, drop}
use Rattle.policy_model.specs.Lists.{has}
use Rattle.group_expand.specs.Seen.{numbers_of}
use Rattle.group_expand.proofs.zone_nets.zone_set.Given as goal

abbrev pub invariant-loop-z : goal.invariant-loop-z
invariant-loop-z l = (x : ℕ) → (has l.set x || has (numbers_of (drop l.z-index l.zones)) x) ≡ has (numbers_of l.zones) x
