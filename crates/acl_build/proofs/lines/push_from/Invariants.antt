use Rattle.std.proofs.Common.{◌≡◌, map, drop, ◌++◌}
use Rattle.spoc_base.specs.Shown.{cidr_of, box_of}
use Rattle.dev_config.specs.Seen.{line_of}
use Rattle.permit_lines.specs.Pieces.{permit_line}
use Rattle.acl_build.proofs.lines.push_from.Given as goal

abbrev pub invariant-loop-dst : goal.invariant-loop-dst
invariant-loop-dst l =
    map line_of l.lines.items ++ map (permit_line (box_of l.t) (cidr_of l.src)) (map cidr_of (drop l.dst-index l.dsts))
    ≡ map line_of l.initial.lines.items ++ map (permit_line (box_of l.t) (cidr_of l.src)) (map cidr_of l.dsts)
