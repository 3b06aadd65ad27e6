use Rattle.std.proofs.Common.{◌≡◌, ◌++◌, drop, map}
use Rattle.acl_print.specs.Seen.{member_seen}
use Rattle.acl_print.specs.Groups.{groups_text}
use Rattle.acl_print.proofs.asa.put_groups.Given as goal

abbrev pub invariant-loop-k : goal.invariant-loop-k
invariant-loop-k l =
    l.out.items ++ groups_text l.k (map (λ g. map member_seen g.items) (drop l.k l.groups)) ≡ l.fn.out.items ++ groups_text 0 (map (λ g. map member_seen g.items) l.groups)
