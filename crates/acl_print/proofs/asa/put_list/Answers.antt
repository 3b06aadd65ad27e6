use Rattle.dev_config.specs.Seen.{line_of}
use Rattle.acl_print.specs.Seen.{port_seen}
use Rattle.acl_print.specs.DeviceText.{asa_line_text}
use Rattle.acl_print.proofs.Parts.{item_more}
use Rattle.acl_print.proofs.asa.put_list.Goals as goal

pub loop-line-preserved : goal.loop-line-preserved
loop-line-preserved c =
    item_more (asa_line_text c.args.groups.now (port_seen c.args.port.now)) line_of c.loop-line.out.items c.put_line.new.out.items _ c.loop-line.line-index c.args.list.now.lines.now
    c.line-item.result c.loop-line-test.true c.line-item.is c.in_ok-put_line.ensures c.loop-line.invariant
