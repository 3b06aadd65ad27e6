use Rattle.std.proofs.Common.{◌≡◌, ◌++◌, map}
use Rattle.path_walk.specs.Seen.{link_seen}
use Rattle.path_walk.specs.Pairs.{link_at}
use Rattle.path_walk.proofs.marks.links_of.Given as goal

abbrev pub invariant-loop-pair : goal.invariant-loop-pair
invariant-loop-pair l = map link_seen l.links.items ++ map link_at l.pair-iterator ≡ map link_at l.pairs.keys
