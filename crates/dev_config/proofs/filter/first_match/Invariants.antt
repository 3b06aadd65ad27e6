-- The lines left decide the header as all of them do.
use Rattle.std.proofs.Common.{◌≡◌, map, drop}
use Rattle.policy_model.specs.Filters.{passes}
use Rattle.dev_config.specs.Seen.{line_of, lines_of, header_of}
use Rattle.dev_config.proofs.filter.first_match.Given as goal

abbrev pub invariant-loop-line : goal.invariant-loop-line
invariant-loop-line l = passes (lines_of l.list) (header_of l.h) ≡ passes (map line_of (drop l.line-index l.list.lines.now)) (header_of l.h)
