use Rattle.std.proofs.Common.{length}
use Rattle.path_walk.proofs.Pushing.{IsOpening}
use Rattle.path_walk.proofs.search.Search.open_all.Given as goal

abbrev pub invariant-loop-crossing : goal.invariant-loop-crossing
invariant-loop-crossing l = IsOpening l.depth l.fn.self.path.items l.self.path.items l.fn.crossings.items l.crossings.items l.fn.self.open.items l.self.open.items

abbrev pub decreases-loop-crossing : goal.decreases-loop-crossing
decreases-loop-crossing l = length l.crossings.items
