-- The lines from a place on are done, the last one first.
use Rattle.std.proofs.Common.{◌≡◌, ◌≤◌, map, drop, reverse, length}
use Rattle.policy_model.specs.Optimised.{without_repeated}
use Rattle.dev_config.specs.Seen.{line_of}
use Rattle.local_optimise.specs.Held.{held_by}
use Rattle.local_optimise.specs.Remaining.{AreRemaining}
use Rattle.local_optimise.proofs.second_pass.unrepeated.Given as goal

abbrev pub invariant-loop-left : goal.invariant-loop-left
invariant-loop-left l = record {
  within : l.left ≤ length l.lines;
  chained : AreRemaining l.below;
  kept : reverse (held_by l.below.shelf) ≡ without_repeated (map line_of (drop l.left l.lines));
}

abbrev pub decreases-loop-left : goal.decreases-loop-left
decreases-loop-left l = l.left
