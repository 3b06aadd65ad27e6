use Rattle.std.proofs.Common.{◌≡◌, map, drop}
use Rattle.std.specs.Prelude.{filter, option_map}
use Rattle.spoc_base.specs.Shown.{cidr_of}
use Rattle.policy_model.specs.Objects.{NetObject, is_asked}
use Rattle.topology.specs.View.{policy_of}
use Rattle.group_expand.specs.Scope.{site_in}
use Rattle.group_expand.specs.Sets.{with_objects, zone_objects}
use Rattle.group_expand.proofs.zone_nets.add_zone.Given as goal

abbrev pub invariant-loop-n : goal.invariant-loop-n
invariant-loop-n l =
    with_objects l.found (map NetObject (filter (is_asked (policy_of l.scope.topo) (option_map cidr_of l.fn.only)) (map (λ n. n.0) (drop l.n-index l.row))))
    ≡ with_objects l.fn.found (zone_objects (site_in l.scope) (option_map cidr_of l.fn.only) l.fn.z.0)
