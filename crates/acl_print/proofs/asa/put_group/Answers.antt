use Rattle.std.proofs.Common.{map}
use Rattle.std.specs.Prelude.{codes, flat_map}
use Rattle.acl_print.specs.Seen.{member_seen}
use Rattle.acl_print.specs.Groups.{group_name, member_text}
use Rattle.acl_print.proofs.Parts.{four}
use Rattle.acl_print.proofs.asa.put_group.Goals as goal

pub returns : goal.returns
returns c =
    four _ _ _ _ _ (codes "object-group network ") (group_name c.args.k) (codes "\n") (flat_map member_text (map member_seen c.args.members.now)) c.in_ok-put.ensures
    c.in_ok-put_group_name.ensures c.in_ok-put-2.ensures c.in_ok-put_members.ensures
