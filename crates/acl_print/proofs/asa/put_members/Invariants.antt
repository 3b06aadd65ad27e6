use Rattle.std.proofs.Common.{◌≡◌, ◌++◌, drop, map}
use Rattle.std.specs.Prelude.{flat_map}
use Rattle.acl_print.specs.Seen.{member_seen}
use Rattle.acl_print.specs.Groups.{member_text}
use Rattle.acl_print.proofs.asa.put_members.Given as goal

abbrev pub invariant-loop-member : goal.invariant-loop-member
invariant-loop-member l =
    l.out.items ++ flat_map member_text (map member_seen (drop l.member-index l.members)) ≡ l.fn.out.items ++ flat_map member_text (map member_seen l.members)
