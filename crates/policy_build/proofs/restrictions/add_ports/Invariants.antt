use Rattle.std.proofs.Common.{◌≡◌, map, drop, ◌++◌}
use Rattle.spoc_ast.specs.Seen.{port_seen}
use Rattle.policy_decls.specs.Said.{number_of_port}
use Rattle.policy_build.specs.Views.{decls_of}
use Rattle.policy_build.proofs.restrictions.add_ports.Given as goal

abbrev pub invariant-loop-port : goal.invariant-loop-port
invariant-loop-port l =
    map (λ i. i.0) l.found.items ++ map (number_of_port (decls_of l.scope)) (map port_seen (drop l.port-index l.ports)) ≡ map (λ i. i.0) l.initial.found.items ++ map (number_of_port (decls_of l.scope)) (map port_seen l.ports)
