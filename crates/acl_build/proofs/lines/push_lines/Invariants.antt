use Rattle.std.proofs.Common.{◌≡◌, map, flat_map, drop, ◌++◌}
use Rattle.spoc_base.specs.Shown.{cidr_of, box_of}
use Rattle.dev_config.specs.Seen.{line_of}
use Rattle.acl_build.specs.Pieces.{lines_from}
use Rattle.acl_build.proofs.lines.push_lines.Given as goal

abbrev pub invariant-loop-src : goal.invariant-loop-src
invariant-loop-src l =
    map line_of l.lines.items ++ flat_map (lines_from (box_of l.t) (map cidr_of l.dsts)) (map cidr_of (drop l.src-index l.srcs))
    ≡ map line_of l.initial.lines.items ++ flat_map (lines_from (box_of l.t) (map cidr_of l.dsts)) (map cidr_of l.srcs)
