use Rattle.std.proofs.Common.{◌≡◌, map, drop, ◌++◌}
use Rattle.spoc_ast.specs.Seen.{port_seen}
use Rattle.policy_decls.specs.Names as plain
use Rattle.policy_names.specs.Seen.{mention_seen}
use Rattle.policy_names.proofs.uses.in_ports.Given as goal

abbrev pub invariant-loop-port : goal.invariant-loop-port
invariant-loop-port l =
    map mention_seen l.found.items ++ map plain.mention_port (map port_seen (drop l.port-index l.ports))
    ≡ map mention_seen l.initial.found.items ++ map plain.mention_port (map port_seen (l.ports))
