use Rattle.std.proofs.Common.{◌≡◌, not, true, take, [], ◌∷◌, ◌++◌}
use Rattle.std.specs.List.{list_all}
use Rattle.path_walk.specs.Seen.{path_seen, step_seen, two_on}
use Rattle.path_walk.proofs.onward.allow.Given as goal

abbrev pub invariant-loop-restriction : goal.invariant-loop-restriction
invariant-loop-restriction l = list_all (λ r. not (two_on (path_seen l.fn.path ++ step_seen l.fn.last ∷ []) r.members.now)) (take l.restriction-index l.restrictions) ≡ true
