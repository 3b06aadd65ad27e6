use Rattle.std.proofs.Common.{◌≡◌, ◌++◌, drop}
use Rattle.std.specs.Prelude.{filter}
use Rattle.policy_model.specs.Policy.{router_at}
use Rattle.topology.specs.View.{policy_of}
use Rattle.group_expand.specs.Seen.{iface_numbers}
use Rattle.group_expand.specs.Spread.{marked}
use Rattle.zone_hops.proofs.hops.marked_ifaces.Given as goal

abbrev pub invariant-loop-i : goal.invariant-loop-i
invariant-loop-i l =
    iface_numbers l.hops.items ++ filter (λ i. marked l.passed (router_at (policy_of l.topo) i)) (drop l.i-index (iface_numbers l.row))
    ≡ filter (λ i. marked l.passed (router_at (policy_of l.topo) i)) (iface_numbers l.row)
