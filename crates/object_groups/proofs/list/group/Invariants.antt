-- Where the last turn took no line away, the lines are grouped.
use Rattle.std.proofs.Common.{map}
use Rattle.dev_config.specs.Seen.{line_of, lines_of}
use Rattle.object_groups.proofs.Turns.{AreLeft}
use Rattle.object_groups.proofs.list.group.Given as goal

abbrev pub invariant-loop-before : goal.invariant-loop-before
invariant-loop-before l = AreLeft (lines_of l.list) (map line_of l.left.items) l.before

abbrev pub decreases-loop-before : goal.decreases-loop-before
decreases-loop-before l = l.before
