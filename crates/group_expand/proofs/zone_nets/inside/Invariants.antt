use Rattle.std.proofs.Common.{◌≡◌, ◌-◌, ◌++◌, length, map}
use Rattle.std.specs.Prelude.{filter}
use Rattle.std.specs.List.{range_with_len}
use Rattle.policy_model.specs.Lists.{has, numbers_below}
use Rattle.policy_model.specs.Objects.{NetObject}
use Rattle.policy_model.specs.Zones.{zone_of}
use Rattle.topology.specs.View.{policy_of}
use Rattle.group_expand.specs.Scope.{site_in}
use Rattle.group_expand.specs.Sets.{object_seen}
use Rattle.group_expand.proofs.zone_nets.inside.Given as goal

abbrev pub invariant-loop-n : goal.invariant-loop-n
invariant-loop-n l =
    let count = length (policy_of l.scope.topo).nets in
    map object_seen l.found.items ++ map NetObject (filter (λ m. has l.zones (zone_of (site_in l.scope) m)) (range_with_len l.n (count - l.n)))
    ≡ map NetObject (filter (λ m. has l.zones (zone_of (site_in l.scope) m)) (numbers_below count))
