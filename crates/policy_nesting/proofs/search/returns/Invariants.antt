use Rattle.std.proofs.Common.{drop}
use Rattle.policy_nesting.specs.Search.{Finds, Covers}
use Rattle.policy_nesting.proofs.search.returns.Given as goal

abbrev pub invariant-loop-next : goal.invariant-loop-next
invariant-loop-next l = Finds l.rows l.start l.marked.items l.found.items × Covers l.rows l.start l.marked.items (drop l.next l.found.items)
