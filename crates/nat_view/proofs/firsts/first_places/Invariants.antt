use Rattle.std.proofs.Common.{◌≡◌, length}
use Rattle.nat_view.specs.Met.{AreFirstBelow}
use Rattle.nat_view.proofs.firsts.first_places.Given as goal

abbrev pub invariant-loop-k : goal.invariant-loop-k
invariant-loop-k l = (length l.met.items ≡ l.tables) × AreFirstBelow l.places l.met.items l.listed.items l.k
