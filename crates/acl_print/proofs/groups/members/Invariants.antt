-- The members found so far and the prefixes left are all of them.
use Rattle.std.proofs.Common.{◌≡◌, ◌++◌, map, drop}
use Rattle.spoc_base.specs.Shown.{cidr_of}
use Rattle.acl_print.specs.Seen.{member_seen}
use Rattle.acl_print.proofs.groups.members.Given as goal

abbrev pub invariant-loop-p : goal.invariant-loop-p
invariant-loop-p l = map member_seen l.found.items ++ map cidr_of (drop l.p-index l.prefixes) ≡ map cidr_of l.prefixes
