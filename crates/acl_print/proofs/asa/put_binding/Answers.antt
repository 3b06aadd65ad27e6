use Rattle.std.specs.Prelude.{codes}
use Rattle.acl_print.specs.Words.{list_name}
use Rattle.acl_print.proofs.Parts.{five}
use Rattle.acl_print.proofs.asa.put_binding.Goals as goal

pub returns : goal.returns
returns c =
    let hardware = c.args.port.now.hardware.now in
    five _ _ _ _ _ _ (codes "access-group ") (list_name hardware) (codes " in interface ") hardware (codes "\n") c.in_ok-put.ensures c.in_ok-put_list_name.ensures c.in_ok-put-2.ensures
    c.in_ok-put-3.ensures c.in_ok-put-4.ensures
