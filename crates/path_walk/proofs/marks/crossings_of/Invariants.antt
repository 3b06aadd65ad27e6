use Rattle.std.proofs.Common.{◌≡◌, ◌++◌, map}
use Rattle.path_walk.specs.Seen.{crossing_seen}
use Rattle.path_walk.specs.Pairs.{crossing_at}
use Rattle.path_walk.proofs.marks.crossings_of.Given as goal

abbrev pub invariant-loop-pair : goal.invariant-loop-pair
invariant-loop-pair l = map crossing_seen l.crossings.items ++ map crossing_at l.pair-iterator ≡ map crossing_at l.pairs.keys
