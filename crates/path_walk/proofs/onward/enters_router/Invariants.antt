use Rattle.std.proofs.Common.{◌≡◌, false, take}
use Rattle.std.specs.Prelude.{◌==◌}
use Rattle.std.specs.List.{list_any}
use Rattle.topology.specs.View.{policy_of}
use Rattle.policy_model.specs.Policy.{router_at}
use Rattle.path_walk.proofs.onward.enters_router.Given as goal

abbrev pub invariant-loop-c : goal.invariant-loop-c
invariant-loop-c l = list_any (λ c. router_at (policy_of l.fn.topo) c.enter.0 == l.fn.router.0) (take l.c-index l.path) ≡ false
