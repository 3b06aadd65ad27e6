use Rattle.std.proofs.Common.{ℕ, ◌<◌}
use Rattle.topology.specs.View.{policy_of}
use Rattle.nat_view.specs.Views.{seen_of}
use Rattle.permit_set.specs.Shown.{permit_of}
use Rattle.permit_lines.specs.Given.{site_with}
use Rattle.rule_distribute.specs.Hidden.{NoneHiddenAt}
use Rattle.rule_distribute.proofs.hidden.first_zone.Given as goal

abbrev pub invariant-loop-z : goal.invariant-loop-z
invariant-loop-z l = (y : ℕ) → y < l.z → NoneHiddenAt (site_with (policy_of l.topo) l.graph) (seen_of l.views).views (permit_of l.q) y
