use Rattle.std.proofs.Common.{◌++◌, ◌∙◌, map, ap}
use Rattle.acl_print.specs.Seen.{member_seen}
use Rattle.acl_print.specs.Groups.{group_text}
use Rattle.acl_print.proofs.Parts.{group_more}
use Rattle.acl_print.proofs.asa.put_groups.Goals as goal

pub loop-k-preserved : goal.loop-k-preserved
loop-k-preserved c =
    group_more (λ g. map member_seen g.items) c.loop-k.out.items c.put_group.new.out.items _ c.loop-k.k c.args.groups.now c.index-groups-k.result c.loop-k-test.true c.index-groups-k.is
    (c.in_ok-put_group.ensures ∙ ap (λ members. c.loop-k.out.items ++ group_text c.loop-k.k (map member_seen members)) c.as_slice.ensures.value) c.loop-k.invariant
