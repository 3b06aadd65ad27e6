use Rattle.std.proofs.Common.{ℕ, ◌<◌}
use Rattle.policy_model.specs.Tags.{zone_view}
use Rattle.topology.specs.View.{policy_of}
use Rattle.nat_domains.specs.Translated.{HasNoPair}
use Rattle.nat_domains.proofs.refuse.twice_fault.Given as goal

abbrev pub invariant-loop-z : goal.invariant-loop-z
invariant-loop-z l = (y : ℕ) → y < l.z → HasNoPair (policy_of l.topo) (zone_view l.table y)
