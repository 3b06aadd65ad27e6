use Rattle.std.proofs.Common.{◌≡◌, ◌++◌, map, drop}
use Rattle.spoc_ast.specs.Seen.{decl_seen, file_seen}
use Rattle.policy_resolve.proofs.decls.add_decls.Given as goal

abbrev pub invariant-loop-decl : goal.invariant-loop-decl
invariant-loop-decl l = map decl_seen l.found.items ++ map decl_seen (drop l.decl-index l.decl-items) ≡ map decl_seen l.initial.found.items ++ file_seen l.file
