use Rattle.std.proofs.Common.{ℕ, ◌<◌, map}
use Rattle.policy_model.specs.Blocks.{permit_at}
use Rattle.topology.specs.View.{policy_of}
use Rattle.nat_view.specs.Views.{seen_of}
use Rattle.permit_set.specs.Shown.{permit_of}
use Rattle.permit_lines.specs.Given.{site_with}
use Rattle.rule_distribute.specs.Hidden.{IsSeenThroughout}
use Rattle.rule_distribute.proofs.hidden.first_hidden.Given as goal

abbrev pub invariant-loop-k : goal.invariant-loop-k
invariant-loop-k l = (i : ℕ) → i < l.k → IsSeenThroughout (site_with (policy_of l.topo) l.graph) (seen_of l.views).views (permit_at (map permit_of l.permits) i)
