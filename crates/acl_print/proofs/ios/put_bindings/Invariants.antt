use Rattle.std.proofs.Common.{◌≡◌, ◌++◌, drop, map}
use Rattle.std.specs.Prelude.{flat_map}
use Rattle.acl_print.specs.Seen.{port_seen}
use Rattle.acl_print.specs.DeviceText.{ios_binding_text}
use Rattle.acl_print.proofs.ios.put_bindings.Given as goal

abbrev pub invariant-loop-port : goal.invariant-loop-port
invariant-loop-port l =
    l.out.items ++ flat_map ios_binding_text (map port_seen (drop l.port-index l.ports)) ≡ l.fn.out.items ++ flat_map ios_binding_text (map port_seen l.ports)
