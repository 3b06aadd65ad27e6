use Rattle.std.proofs.Common.{◌≡◌, ◌++◌, flat_map, drop}
use Rattle.policy_names.specs.Seen.{decls_of}
use Rattle.policy_nesting.specs.Nodes.{row_in}
use Rattle.policy_nesting.proofs.group_graph.rows_of.Given as goal

abbrev pub invariant-loop-file : goal.invariant-loop-file
invariant-loop-file l = l.rows.items ++ flat_map (row_in l.table l.nesting) (decls_of (drop l.file-index l.files)) ≡ flat_map (row_in l.table l.nesting) (decls_of l.files)
