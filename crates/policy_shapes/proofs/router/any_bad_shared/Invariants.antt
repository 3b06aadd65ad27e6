use Rattle.std.proofs.Common.{◌≡◌, map, drop}
use Rattle.std.specs.List.{list_any}
use Rattle.spoc_ast.specs.Seen.{decl_seen}
use Rattle.policy_decls.specs.Shapes as shapes
use Rattle.policy_shapes.specs.Seen.{iface_seen}
use Rattle.policy_shapes.proofs.router.any_bad_shared.Given as goal

abbrev pub invariant-loop-iface : goal.invariant-loop-iface
invariant-loop-iface l = list_any (shapes.is_bad_shared (map decl_seen l.policy)) (map iface_seen (drop l.iface-index l.ifaces)) ≡ list_any (shapes.is_bad_shared (map decl_seen l.policy)) (map iface_seen l.ifaces)
