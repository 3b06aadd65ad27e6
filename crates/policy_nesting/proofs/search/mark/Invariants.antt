use Rattle.std.proofs.Common.{take}
use Rattle.policy_nesting.specs.Search.{Marks}
use Rattle.policy_nesting.proofs.search.mark.Given as goal

abbrev pub invariant-loop-node : goal.invariant-loop-node
invariant-loop-node l = Marks (take l.node-index l.row) l.initial.marked.items l.initial.found.items l.marked.items l.found.items
