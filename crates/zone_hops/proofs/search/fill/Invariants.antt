use Rattle.std.proofs.Common.{◌≡◌, ◌+◌, true, [], length}
use Rattle.topology.specs.View.{policy_of}
use Rattle.group_expand.specs.Spread.{marked, unmarked_count}
use Rattle.zone_hops.specs.Search.{numbers_of, IsSearch}
use Rattle.zone_hops.proofs.search.fill.Given as goal

abbrev pub invariant-loop-r : goal.invariant-loop-r
invariant-loop-r l = IsSearch (policy_of l.topo) l.fn.at.0 l.fn.target.0 l.seen l.passed (numbers_of l.left.items) [] [] × (marked l.seen l.fn.target.0 ≡ true)

abbrev pub decreases-loop-r : goal.decreases-loop-r
decreases-loop-r l = unmarked_count l.passed + length (numbers_of l.left.items)
