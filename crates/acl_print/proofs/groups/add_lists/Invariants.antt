-- The groups so far with the ends of the lists left are all groups.
use Rattle.std.proofs.Common.{◌≡◌, drop, map}
use Rattle.std.specs.Prelude.{fold, flat_map}
use Rattle.dev_config.specs.Seen.{lines_of}
use Rattle.acl_print.specs.Groups.{with_group, ends_of}
use Rattle.acl_print.proofs.groups.add_lists.Given as goal

abbrev pub invariant-loop-list : goal.invariant-loop-list
invariant-loop-list l =
    fold with_group l.groups (flat_map (λ lines. flat_map ends_of lines) (map lines_of (drop l.list-index l.lists)))
    ≡ fold with_group l.fn.groups (flat_map (λ lines. flat_map ends_of lines) (map lines_of l.lists))
