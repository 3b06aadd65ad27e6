use Rattle.std.specs.Prelude.{codes}
use Rattle.acl_print.specs.Seen.{member_seen}
use Rattle.acl_print.specs.Groups.{addresses_text}
use Rattle.acl_print.proofs.Parts.{three}
use Rattle.acl_print.proofs.asa.put_member.Goals as goal

pub returns : goal.returns
returns c = three _ _ _ _ (codes " network-object ") (addresses_text (member_seen c.args.member.now)) (codes "\n") c.in_ok-put.ensures c.in_ok-put_addresses.ensures c.in_ok-put-2.ensures
