use Rattle.std.proofs.Common.{◌≡◌, ◌++◌, map, drop}
use Rattle.spoc_ast.specs.Seen.{decl_seen}
use Rattle.policy_decls.specs.Lookup as plain
use Rattle.policy_shapes.specs.Seen.{iface_seen}
use Rattle.policy_shapes.proofs.iface.all_ifaces.Given as goal

abbrev pub invariant-loop-decl : goal.invariant-loop-decl
invariant-loop-decl l = map iface_seen l.found.items ++ plain.declared_ifaces (map decl_seen (drop l.decl-index l.decls)) ≡ plain.declared_ifaces (map decl_seen l.decls)
