use Rattle.std.proofs.Common.{◌≡◌, map, drop}
use Rattle.std.specs.List.{list_any}
use Rattle.spoc_ast.specs.Seen.{port_seen, decl_seen}
use Rattle.policy_decls.specs.Shapes as shapes
use Rattle.policy_shapes.proofs.restriction.any_unmanaged.Given as goal

abbrev pub invariant-loop-port : goal.invariant-loop-port
invariant-loop-port l = list_any (shapes.is_unmanaged_port (map decl_seen l.policy)) (map port_seen (drop l.port-index l.ports)) ≡ list_any (shapes.is_unmanaged_port (map decl_seen l.policy)) (map port_seen l.ports)
