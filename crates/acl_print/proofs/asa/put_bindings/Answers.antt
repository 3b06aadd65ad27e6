use Rattle.acl_print.specs.Seen.{port_seen}
use Rattle.acl_print.specs.DeviceText.{asa_binding_text}
use Rattle.acl_print.proofs.Parts.{item_more}
use Rattle.acl_print.proofs.asa.put_bindings.Goals as goal

pub loop-port-preserved : goal.loop-port-preserved
loop-port-preserved c =
    item_more asa_binding_text port_seen c.loop-port.out.items c.put_binding.new.out.items _ c.loop-port.port-index c.args.ports.now c.port-item.result c.loop-port-test.true c.port-item.is
    c.in_ok-put_binding.ensures c.loop-port.invariant
