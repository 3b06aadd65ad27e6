use Rattle.std.proofs.Common.{◌≡◌, ◌∙◌, map, ap, length, true, nat_lt, refl, arith}
use Rattle.std.proofs.lemmas.List.{length-map}
use Rattle.std.proofs.lemmas.Bool.Decides.{nat_tests}
use Rattle.spoc_base.specs.Shown.{cidr_of}
use Rattle.acl_print.specs.Seen.{member_seen}
use Rattle.acl_print.specs.Groups.{is_several}
use Rattle.acl_print.proofs.GroupNumbers.{added_by_members}
use Rattle.acl_print.proofs.groups.Groups.add.Goals as goal

pub returns : goal.returns
returns c =
    let prefixes = c.args.prefixes.now in
    let many : nat_lt 1 (length prefixes) ≡ true = grind (arith, nat_tests, c.if-prefixes-le1.false) in
    let several : is_several (map cidr_of prefixes) ≡ true = ap (nat_lt 1) (length-map prefixes cidr_of) ∙ many in
    ap (map (λ k. map member_seen k.items)) c.in_ok-insert.ensures.keys
    ∙ added_by_members (λ k. k.items) c.in_ok-key.key.items c.self.inside.set.keys c.in_ok-key.key _ c.args.self.now refl c.in_ok-key.ensures c.self.view_is several
