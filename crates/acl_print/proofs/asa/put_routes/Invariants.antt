use Rattle.std.proofs.Common.{◌≡◌, ◌++◌, drop, map}
use Rattle.std.specs.Prelude.{flat_map}
use Rattle.dev_config.specs.Seen.{route_of}
use Rattle.acl_print.specs.Seen.{port_seen}
use Rattle.acl_print.specs.DeviceText.{asa_route_text}
use Rattle.acl_print.proofs.asa.put_routes.Given as goal

abbrev pub invariant-loop-route : goal.invariant-loop-route
invariant-loop-route l =
    l.out.items ++ flat_map (asa_route_text (map port_seen l.ports)) (map route_of (drop l.route-index l.routes))
    ≡ l.fn.out.items ++ flat_map (asa_route_text (map port_seen l.ports)) (map route_of l.routes)
