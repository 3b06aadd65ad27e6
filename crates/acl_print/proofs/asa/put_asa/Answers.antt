use Rattle.std.proofs.Common.{◌++◌, ◌∙◌, map, ap}
use Rattle.std.specs.Prelude.{codes, flat_map}
use Rattle.dev_config.specs.Seen.{lines_of, route_of, config_of}
use Rattle.acl_print.specs.Seen.{port_seen}
use Rattle.acl_print.specs.Groups.{groups_text}
use Rattle.acl_print.specs.DeviceText.{asa_route_text, asa_list_text, asa_binding_text, each_list, asa_text_with}
use Rattle.acl_print.proofs.Parts.{seven}
use Rattle.acl_print.proofs.asa.put_asa.Goals as goal

pub returns : goal.returns
returns c =
    let groups = c.in_ok-groups.groups in
    let ports = map port_seen c.args.ports.now in
    let config = c.args.config.now in
    seven _ _ _ _ _ _ _ _ (codes "! ") c.args.name.now (codes " ASA\n") (flat_map (asa_route_text ports) (map route_of config.routes.now)) (groups_text 0 groups)
    (each_list (asa_list_text groups) ports (map lines_of config.lists.now)) (flat_map asa_binding_text ports) c.in_ok-put.ensures c.in_ok-put-2.ensures c.in_ok-put-3.ensures
    c.in_ok-put_routes.ensures (c.in_ok-put_groups.ensures ∙ ap (λ gs. c.put_routes.new.out.items ++ groups_text 0 gs) c.lists.ensures) c.in_ok-put_lists.ensures
    c.in_ok-put_bindings.ensures
    ∙ ap (λ gs. c.args.out.now.items ++ asa_text_with gs c.args.name.now ports (config_of config)) c.in_ok-groups.ensures
