use Rattle.std.proofs.Common.{◌-◌, ◌≤◌}
use Rattle.nat_view.specs.Sights.{sight_of}
use Rattle.shadow_checks.specs.Lying.{NoneBetween}
use Rattle.shadow_checks.proofs.walk.lies_at.Given as goal

abbrev pub invariant-loop-at : goal.invariant-loop-at
invariant-loop-at l = (l.start ≤ l.at) × NoneBetween (sight_of l.view).policy (sight_of l.view).tags l.m.0 l.start l.at

abbrev pub decreases-loop-at : goal.decreases-loop-at
decreases-loop-at l = l.end - l.at
