use Rattle.std.proofs.Common.{◌≡◌, ◌&&◌, not, false, take, [], ◌∷◌, ◌++◌}
use Rattle.std.specs.Prelude.{◌==◌}
use Rattle.std.specs.List.{list_any}
use Rattle.path_walk.specs.Seen.{path_seen, step_seen}
use Rattle.policy_model.specs.Lists.{has}
use Rattle.policy_model.specs.Paths.{interfaces_on}
use Rattle.path_walk.proofs.onward.has_other_on.Given as goal

abbrev pub invariant-loop-j : goal.invariant-loop-j
invariant-loop-j l = list_any (λ j. not (l.fn.i.0 == j.0) && has (interfaces_on (path_seen l.fn.path ++ step_seen l.fn.last ∷ [])) j.0) (take l.j-index l.members) ≡ false
