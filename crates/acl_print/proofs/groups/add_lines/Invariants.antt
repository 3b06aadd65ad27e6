-- The groups so far with the ends of the lines left are all groups.
use Rattle.std.proofs.Common.{◌≡◌, drop, map}
use Rattle.std.specs.Prelude.{fold, flat_map}
use Rattle.dev_config.specs.Seen.{line_of}
use Rattle.acl_print.specs.Groups.{with_group, ends_of}
use Rattle.acl_print.proofs.groups.add_lines.Given as goal

abbrev pub invariant-loop-line : goal.invariant-loop-line
invariant-loop-line l =
    fold with_group l.groups (flat_map ends_of (map line_of (drop l.line-index l.lines))) ≡ fold with_group l.fn.groups (flat_map ends_of (map line_of l.lines))
