-- So far the lines that none above them covers are left.
use Rattle.std.proofs.Common.{◌≡◌, map, take}
use Rattle.policy_model.specs.Optimised.{without_covered}
use Rattle.dev_config.specs.Seen.{line_of}
use Rattle.local_optimise.specs.Held.{held_by, IsIndexed}
use Rattle.local_optimise.proofs.first_pass.uncovered.Given as goal

abbrev pub invariant-loop-line : goal.invariant-loop-line
invariant-loop-line l = record {
  indexed : IsIndexed l.above;
  kept : held_by l.above ≡ without_covered (map line_of (take l.line-index l.lines));
}
