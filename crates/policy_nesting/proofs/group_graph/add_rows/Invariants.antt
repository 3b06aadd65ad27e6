use Rattle.std.proofs.Common.{◌≡◌, ◌++◌, map, flat_map, drop}
use Rattle.spoc_ast.specs.Seen.{decl_seen, file_seen}
use Rattle.policy_nesting.specs.Nodes.{row_in}
use Rattle.policy_nesting.proofs.group_graph.add_rows.Given as goal

abbrev pub invariant-loop-decl : goal.invariant-loop-decl
invariant-loop-decl l =
    l.rows.items ++ flat_map (row_in l.table l.nesting) (map decl_seen (drop l.decl-index l.decl-items)) ≡ l.initial.rows.items ++ flat_map (row_in l.table l.nesting) (file_seen l.file)
