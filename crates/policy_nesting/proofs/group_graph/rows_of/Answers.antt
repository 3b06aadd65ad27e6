use Rattle.std.proofs.Common.{ap, drop}
use Rattle.std.proofs.lemmas.List.{drop_all}
use Rattle.policy_names.specs.Seen.{decls_of}
use Rattle.policy_nesting.proofs.Circles.{rows_done, rows_are_nodes}
use Rattle.policy_nesting.proofs.group_graph.rows_of.Goals as goal

pub returns-clause-rows : goal.returns-clause-rows
returns-clause-rows c =
    rows_done c.args.nesting (decls_of c.args.files.now) c.args.table.now c.loop-file.rows.items (decls_of (drop c.loop-file.file-index c.args.files.now)) c.requires.table
    (ap decls_of (drop_all c.loop-file.file-index c.args.files.now c.loop-file-test.false)) c.requires.named c.loop-file.invariant

pub returns-clause-nodes : goal.returns-clause-nodes
returns-clause-nodes c = rows_are_nodes c.args.nesting (decls_of c.args.files.now) c.loop-file.rows.items c.requires.named (returns-clause-rows c)
