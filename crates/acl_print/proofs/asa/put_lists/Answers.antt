use Rattle.acl_print.specs.DeviceText.{asa_list_text}
use Rattle.acl_print.proofs.Parts.{each_more}
use Rattle.acl_print.proofs.asa.put_lists.Goals as goal

pub loop-k-preserved : goal.loop-k-preserved
loop-k-preserved c =
    each_more (asa_list_text c.args.groups.now) c.loop-k.out.items c.put_list.new.out.items _ c.loop-k.k c.args.ports.now c.args.lists.now c.index-ports-k.result c.index-lists-k.result
    c.loop-k-test.true c.requires.lists c.index-ports-k.is c.index-lists-k.is c.in_ok-put_list.ensures c.loop-k.invariant
