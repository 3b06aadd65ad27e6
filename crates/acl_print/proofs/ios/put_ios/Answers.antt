use Rattle.std.proofs.Common.{map}
use Rattle.std.specs.Prelude.{codes, flat_map}
use Rattle.dev_config.specs.Seen.{route_of, lines_of}
use Rattle.acl_print.specs.Seen.{port_seen}
use Rattle.acl_print.specs.DeviceText.{ios_route_text, ios_list_text, ios_binding_text, each_list}
use Rattle.acl_print.proofs.Parts.{six}
use Rattle.acl_print.proofs.ios.put_ios.Goals as goal

pub returns : goal.returns
returns c =
    six _ _ _ _ _ _ _ (codes "! ") c.args.name.now (codes " IOS\n") (flat_map ios_route_text (map route_of c.args.config.now.routes.now))
    (each_list ios_list_text (map port_seen c.args.ports.now) (map lines_of c.args.config.now.lists.now)) (flat_map ios_binding_text (map port_seen c.args.ports.now)) c.in_ok-put.ensures
    c.in_ok-put-2.ensures c.in_ok-put-3.ensures c.in_ok-put_routes.ensures c.in_ok-put_lists.ensures c.in_ok-put_bindings.ensures
