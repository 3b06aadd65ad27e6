-- Those counted can be joined.
use Rattle.std.proofs.Common.{◌≡◌, true, take}
use Rattle.std.specs.List.{list_all}
use Rattle.policy_model.specs.Grouped.{share_destinations}
use Rattle.dev_config.specs.Seen.{line_of}
use Rattle.object_groups.proofs.compare.count_joinable.Given as goal

abbrev pub invariant-loop-other : goal.invariant-loop-other
invariant-loop-other l = record { count : l.count ≡ l.other-index; joinable : list_all (λ m. share_destinations (line_of l.line) (line_of m)) (take l.other-index l.others) ≡ true }
