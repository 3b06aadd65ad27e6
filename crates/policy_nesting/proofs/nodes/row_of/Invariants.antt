use Rattle.std.proofs.Common.{◌≡◌, ◌++◌, map, filter, drop}
use Rattle.policy_decls.specs.Names as plain
use Rattle.policy_decls.specs.Said.{number_among}
use Rattle.policy_names.specs.Seen.{mention_seen}
use Rattle.policy_names.specs.Tables.{of_kind}
use Rattle.policy_nesting.specs.Nodes.{kind_of}
use Rattle.policy_nesting.proofs.nodes.row_of.Given as goal

abbrev pub invariant-loop-name : goal.invariant-loop-name
invariant-loop-name l =
    l.numbers.items ++ map (number_among (of_kind l.table (kind_of l.nesting))) (filter (λ used. plain.same_kind used.kind (kind_of l.nesting)) (map mention_seen (drop l.name-index l.name-items)))
    ≡ map (number_among (of_kind l.table (kind_of l.nesting))) (filter (λ used. plain.same_kind used.kind (kind_of l.nesting)) (map mention_seen l.name-items))
