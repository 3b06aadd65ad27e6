use Rattle.std.proofs.Common.{◌≡◌, ◌++◌, map, drop}
use Rattle.policy_model.specs.Objects.{NetObject}
use Rattle.policy_model.specs.Permits.{ends_of}
use Rattle.topology.specs.View.{policy_of}
use Rattle.permit_set.specs.Shown.{end_of}
use Rattle.service_rules.specs.Scope.{site_in}
use Rattle.service_rules.proofs.EndLists.{nested_ends}
use Rattle.service_rules.proofs.ends.add_net.Given as goal

abbrev pub invariant-loop-m : goal.invariant-loop-m
invariant-loop-m l =
    map end_of l.found.items ++ nested_ends (policy_of l.scope.topo) l.n.0 (map (λ m. m.0) (drop l.m-index l.row))
    ≡ map end_of l.fn.found.items ++ ends_of (site_in l.scope) (NetObject l.n.0)
