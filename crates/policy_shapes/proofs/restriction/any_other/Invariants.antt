use Rattle.std.proofs.Common.{not, ◌≡◌, map, drop}
use Rattle.std.specs.List.{list_any}
use Rattle.spoc_ast.specs.Seen.{port_seen}
use Rattle.policy_decls.specs.Shapes as shapes
use Rattle.policy_shapes.proofs.restriction.any_other.Given as goal

abbrev pub invariant-loop-other : goal.invariant-loop-other
invariant-loop-other l = list_any (λ q. not (shapes.same_port (port_seen l.port) q)) (map port_seen (drop l.other-index l.ports)) ≡ list_any (λ q. not (shapes.same_port (port_seen l.port) q)) (map port_seen l.ports)
