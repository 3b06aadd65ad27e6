use Rattle.std.proofs.Common.{◌≡◌, map, drop, ◌++◌}
use Rattle.policy_build.proofs.policy.router_numbers.Given as goal

abbrev pub invariant-loop-iface : goal.invariant-loop-iface
invariant-loop-iface l = l.owners.items ++ map (λ i. i.router.0) (drop l.iface-index l.ifaces) ≡ map (λ i. i.router.0) l.ifaces
