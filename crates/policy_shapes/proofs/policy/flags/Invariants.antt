use Rattle.std.proofs.Common.{◌≡◌, ◌++◌, map, drop}
use Rattle.spoc_ast.specs.Seen.{decl_seen}
use Rattle.policy_shapes.specs.Policy.{managed_flags}
use Rattle.policy_shapes.proofs.policy.flags.Given as goal

abbrev pub invariant-loop-decl : goal.invariant-loop-decl
invariant-loop-decl l = l.found.items ++ managed_flags (map decl_seen (drop l.decl-index l.decls)) ≡ managed_flags (map decl_seen l.decls)
