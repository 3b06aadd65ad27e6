use Rattle.std.proofs.Common.{◌≡◌, ◌++◌, map, drop}
use Rattle.spoc_ast.specs.Seen.{decl_seen}
use Rattle.policy_names.specs.Seen.{decls_of}
use Rattle.policy_shapes.proofs.shapes.all_decls.Given as goal

abbrev pub invariant-loop-file : goal.invariant-loop-file
invariant-loop-file l = map decl_seen l.found.items ++ decls_of (drop l.file-index l.files) ≡ decls_of l.files
