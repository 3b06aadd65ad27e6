use Rattle.std.proofs.Common.{map}
use Rattle.spoc_base.specs.Shown.{interval_of}
use Rattle.nat_view.specs.Sights.{sight_of}
use Rattle.shadow_checks.specs.Shadows.{IsOther, NoneBefore}
use Rattle.shadow_checks.proofs.least.first_of.Given as goal

abbrev pub invariant-loop-k : goal.invariant-loop-k
invariant-loop-k l = NoneBefore (IsOther (sight_of l.view).policy (sight_of l.view).tags l.n.0 (interval_of l.range)) (map (λ m. m.0) l.nets) l.k
