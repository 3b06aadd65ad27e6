use Rattle.std.proofs.Common.{◌≡◌, map}
use Rattle.std.specs.Prelude.{filter}
use Rattle.policy_model.specs.Lists.{numbers_below}
use Rattle.policy_model.specs.Policy.{router_at, is_managed}
use Rattle.topology.specs.View.{policy_of}
use Rattle.rule_distribute.proofs.managed.managed_ifaces.Given as goal

abbrev pub invariant-loop-i : goal.invariant-loop-i
invariant-loop-i l = map (λ i. i.0) l.ifaces.items ≡ filter (λ i. is_managed (policy_of l.topo) (router_at (policy_of l.topo) i)) (numbers_below l.i)
