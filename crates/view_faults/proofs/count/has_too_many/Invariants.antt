-- What was seen are the first views, each once, and they aren't too many.
use Rattle.std.proofs.Common.{◌≡◌, ◌≤◌, length, take}
use Rattle.policy_model.specs.Lists.{once_each}
use Rattle.policy_model.specs.Faults.{all_views, same_numbers}
use Rattle.policy_model.specs.FirstFault.{most_views}
use Rattle.view_faults.proofs.count.has_too_many.Given as goal

abbrev pub invariant-loop-k : goal.invariant-loop-k
invariant-loop-k l = (l.seen ≡ once_each same_numbers (take l.k (all_views l.tags))) × (length l.seen ≤ most_views)
