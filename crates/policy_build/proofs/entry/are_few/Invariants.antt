use Rattle.std.proofs.Common.{◌≡◌, ◌+◌, map, drop, length}
use Rattle.spoc_ast.specs.Seen.{decl_seen}
use Rattle.policy_decls.specs.Names.{declared_names}
use Rattle.policy_build.proofs.entry.are_few.Given as goal

abbrev pub invariant-loop-decl : goal.invariant-loop-decl
invariant-loop-decl l = l.count + length (declared_names (map decl_seen (drop l.decl-index l.decls))) ≡ length (declared_names (map decl_seen l.decls))
