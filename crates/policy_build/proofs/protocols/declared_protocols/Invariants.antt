use Rattle.std.proofs.Common.{◌≡◌, map, drop, ◌++◌}
use Rattle.spoc_ast.specs.Seen.{decl_seen}
use Rattle.policy_build.specs.Views.{decls_of}
use Rattle.policy_build.specs.Protocols.{protocols_in, groups_in, simples_seen, members_seen}
use Rattle.policy_build.proofs.protocols.declared_protocols.Given as goal

abbrev pub invariant-loop-decl : goal.invariant-loop-decl
invariant-loop-decl l = record {
  simples : simples_seen l.found.simples.items ++ protocols_in (map decl_seen (drop l.decl-index l.decl-items)) ≡ protocols_in (decls_of l.scope);
  groups : members_seen l.found.groups.items ++ groups_in (map decl_seen (drop l.decl-index l.decl-items)) ≡ groups_in (decls_of l.scope);
}
