use Rattle.std.proofs.Common.{◌∙◌, ap, map, position}
use Rattle.std.specs.Prelude.{ℕ, Option}
use Rattle.std.specs.Option.{unwrap_or}
use Rattle.spoc_base.specs.Shown.{cidr_of}
use Rattle.acl_print.specs.Seen.{member_seen}
use Rattle.acl_print.specs.Groups.{group_number, same_prefixes}
use Rattle.acl_print.proofs.GroupNumbers.{number_by_members}
use Rattle.acl_print.proofs.groups.Groups.number.Goals as goal

pub returns : goal.returns
returns c =
    c.unwrap_or.ensures
    ∙ ap (λ (found : Option ℕ). unwrap_or found 0) (c.get_index_of.ensures.index ∙ number_by_members (λ k. k.items) c.in_ok-key.key.items c.self.inside.set.keys)
    ∙ ap (λ ps. unwrap_or (position (same_prefixes ps) (map (λ k. map member_seen k.items) c.self.inside.set.keys)) 0) c.in_ok-key.ensures
    ∙ ap (λ groups. group_number groups (map cidr_of c.args.prefixes.now)) c.self.view_is
