use Rattle.std.proofs.Common.{◌≡◌, map, take}
use Rattle.std.specs.List.{list_any}
use Rattle.policy_nesting.specs.Graph.{flag_at}
use Rattle.policy_nesting.proofs.graph.longer.Given as goal

abbrev pub invariant-loop-row : goal.invariant-loop-row
invariant-loop-row l = l.next.items ≡ map (list_any (flag_at l.flags)) (take l.row-index l.rows)
