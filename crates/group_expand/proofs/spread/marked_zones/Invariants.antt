use Rattle.std.proofs.Common.{◌≡◌, ◌-◌, ◌++◌, length}
use Rattle.std.specs.Prelude.{filter}
use Rattle.std.specs.List.{range_with_len}
use Rattle.policy_model.specs.Lists.{numbers_below}
use Rattle.group_expand.specs.Seen.{numbers_of}
use Rattle.group_expand.specs.Spread.{marked}
use Rattle.group_expand.proofs.spread.marked_zones.Given as goal

abbrev pub invariant-loop-z : goal.invariant-loop-z
invariant-loop-z l =
    numbers_of l.zones.items ++ filter (marked l.seen) (range_with_len l.z (length l.seen - l.z)) ≡ filter (marked l.seen) (numbers_below (length l.seen))
