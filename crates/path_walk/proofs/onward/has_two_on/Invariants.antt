use Rattle.std.proofs.Common.{◌≡◌, ◌&&◌, not, false, take, [], ◌∷◌, ◌++◌}
use Rattle.std.specs.Prelude.{◌==◌}
use Rattle.std.specs.List.{list_any}
use Rattle.path_walk.specs.Seen.{path_seen, step_seen}
use Rattle.policy_model.specs.Lists.{has}
use Rattle.policy_model.specs.Paths.{interfaces_on}
use Rattle.path_walk.proofs.onward.has_two_on.Given as goal

abbrev pub invariant-loop-i : goal.invariant-loop-i
invariant-loop-i l = list_any (λ i. has (interfaces_on (path_seen l.fn.path ++ step_seen l.fn.last ∷ [])) i.0 && list_any (λ j. not (i.0 == j.0) && has (interfaces_on (path_seen l.fn.path ++ step_seen l.fn.last ∷ [])) j.0) l.members) (take l.i-index l.members) ≡ false
