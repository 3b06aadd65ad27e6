use Rattle.std.proofs.Common.{◌≡◌, map, drop, ◌++◌}
use Rattle.spoc_ast.specs.Seen.{decl_seen, file_seen}
use Rattle.policy_build.proofs.entry.add_decls.Given as goal

abbrev pub invariant-loop-decl : goal.invariant-loop-decl
invariant-loop-decl l = map decl_seen l.decls.items ++ map decl_seen (drop l.decl-index l.decl-items) ≡ map decl_seen l.initial.decls.items ++ file_seen l.file
