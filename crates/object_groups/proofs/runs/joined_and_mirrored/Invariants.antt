-- The runs so far are joined and mirrored.
use Rattle.std.proofs.Common.{◌≡◌, ◌++◌, map, length}
use Rattle.policy_model.specs.Grouped.{sources_joined}
use Rattle.dev_config.specs.Seen.{line_of}
use Rattle.object_groups.specs.Runs.{mirrored}
use Rattle.object_groups.proofs.runs.joined_and_mirrored.Given as goal

abbrev pub invariant-loop-first : goal.invariant-loop-first
invariant-loop-first l = map line_of l.joined.items ++ map mirrored (sources_joined (map line_of l.left)) ≡ map mirrored (sources_joined (map line_of l.lines))

abbrev pub decreases-loop-first : goal.decreases-loop-first
decreases-loop-first l = length l.left
