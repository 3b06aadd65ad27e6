use Rattle.std.proofs.Common.{map}
use Rattle.static_routes.specs.Tables.{zones_named, AreFiled}
use Rattle.static_routes.proofs.tables.places_of.Given as goal

abbrev pub invariant-loop-k : goal.invariant-loop-k
invariant-loop-k l = AreFiled (map zones_named l.tables) l.k l.places
