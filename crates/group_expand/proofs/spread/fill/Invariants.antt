use Rattle.std.proofs.Common.{◌+◌, [], length}
use Rattle.group_expand.specs.Seen.{site_of, numbers_of}
use Rattle.group_expand.specs.Spread.{IsSearch, unmarked_count}
use Rattle.group_expand.proofs.spread.fill.Given as goal

abbrev pub invariant-loop-z : goal.invariant-loop-z
invariant-loop-z l = IsSearch (site_of l.topo l.graph) l.marks l.fn.start.0 l.seen l.passed (numbers_of l.left.items) []

abbrev pub decreases-loop-z : goal.decreases-loop-z
decreases-loop-z l = unmarked_count l.seen + length (numbers_of l.left.items)
