use Rattle.group_expand.specs.Spread.{AreUnmarked}
use Rattle.zone_hops.proofs.hops.unmarked.Given as goal

abbrev pub invariant-loop : goal.invariant-loop
invariant-loop l = AreUnmarked l.marks.items l.counter
