use Rattle.std.proofs.Common.{◌≡◌, ℕ, ◌<◌, false}
use Rattle.topology.specs.View.{policy_of}
use Rattle.permit_lines.specs.Given.{site_with}
use Rattle.rule_distribute.specs.Lacking.{lacks_walk}
use Rattle.rule_distribute.specs.Shown.{pairs_seen}
use Rattle.rule_distribute.proofs.unjoined.first_lacking.Given as goal

abbrev pub invariant-loop-w : goal.invariant-loop-w
invariant-loop-w l = (w : ℕ) → w < l.w → lacks_walk (site_with (policy_of l.topo) l.graph) (pairs_seen l.joined) w ≡ false
