use Rattle.std.proofs.Common.{◌≡◌, map, drop, ◌++◌}
use Rattle.dev_config.specs.Seen.{line_of}
use Rattle.permit_lines.specs.Seen.{lines_of_covers}
use Rattle.acl_build.proofs.covers.push_covers.Given as goal

abbrev pub invariant-loop-cover : goal.invariant-loop-cover
invariant-loop-cover l = map line_of l.lines.items ++ lines_of_covers (drop l.cover-index l.covers) ≡ map line_of l.initial.lines.items ++ lines_of_covers l.covers
