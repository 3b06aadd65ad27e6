use Rattle.std.proofs.Common.{◌∙◌, map, ap}
use Rattle.std.specs.Prelude.{fold, flat_map}
use Rattle.dev_config.specs.Seen.{lines_of}
use Rattle.acl_print.specs.Groups.{with_group, ends_of}
use Rattle.acl_print.proofs.FirstUses.{groups_found}
use Rattle.acl_print.proofs.groups.Groups.of.Goals as goal

pub returns : goal.returns
returns c =
    let ends = flat_map (λ lines. flat_map ends_of lines) (map lines_of c.args.lists.now) in
    c.in_ok-add_lists.ensures ∙ ap (λ groups. fold with_group groups ends) c.none-groups.ensures ∙ groups_found ends
