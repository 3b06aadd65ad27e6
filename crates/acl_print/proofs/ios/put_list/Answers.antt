use Rattle.std.specs.Prelude.{codes, flat_map}
use Rattle.dev_config.specs.Seen.{lines_of}
use Rattle.acl_print.specs.Words.{list_name}
use Rattle.acl_print.specs.DeviceText.{ios_line_text}
use Rattle.acl_print.proofs.Parts.{four}
use Rattle.acl_print.proofs.ios.put_list.Goals as goal

pub returns : goal.returns
returns c =
    four _ _ _ _ _ (codes "ip access-list extended ") (list_name c.args.port.now.hardware.now) (codes "\n") (flat_map ios_line_text (lines_of c.args.list.now)) c.in_ok-put.ensures
    c.in_ok-put_list_name.ensures c.in_ok-put-2.ensures c.in_ok-put_lines.ensures
