use Rattle.std.proofs.Common.{◌≡◌, false, take}
use Rattle.std.specs.Prelude.{◌==◌}
use Rattle.std.specs.List.{list_any}
use Rattle.topology.specs.View.{policy_of}
use Rattle.path_walk.specs.Seen.{site_of}
use Rattle.policy_model.specs.Zones.{zone_at}
use Rattle.path_walk.proofs.onward.comes_to.Given as goal

abbrev pub invariant-loop-c : goal.invariant-loop-c
invariant-loop-c l = list_any (λ c. zone_at (site_of (policy_of l.fn.topo) l.fn.graph) c.leave.0 == l.fn.zone.0) (take l.c-index l.path) ≡ false
