use Rattle.std.proofs.Common.{map}
use Rattle.rule_distribute.specs.Paths.{zones_named, AreFiled}
use Rattle.rule_distribute.proofs.paths.places_of.Given as goal

abbrev pub invariant-loop-k : goal.invariant-loop-k
invariant-loop-k l = AreFiled (map zones_named l.tables) l.k l.places
