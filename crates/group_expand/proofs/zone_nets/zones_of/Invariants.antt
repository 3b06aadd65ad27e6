use Rattle.std.proofs.Common.{◌≡◌, [], map, drop, true}
use Rattle.std.specs.Prelude.{option_map}
use Rattle.spoc_base.specs.Shown.{cidr_of}
use Rattle.policy_model.specs.Objects.{net_of_object, zone_nets}
use Rattle.topology.specs.View.{policy_of}
use Rattle.group_expand.specs.Scope.{site_in}
use Rattle.group_expand.specs.Sets.{AreIn, object_seen, with_objects, are_there}
use Rattle.group_expand.proofs.zone_nets.zones_of.Given as goal

abbrev pub invariant-loop-object : goal.invariant-loop-object
invariant-loop-object l =
    (are_there (policy_of l.scope.topo) (map object_seen (drop l.object-index l.objects)) ≡ true)
    × AreIn (site_in l.scope) (option_map cidr_of l.only) l.done l.found
    × (with_objects l.found (zone_nets (site_in l.scope) (option_map cidr_of l.only) (map (net_of_object (policy_of l.scope.topo)) (map object_seen (drop l.object-index l.objects))))
    ≡ with_objects [] (zone_nets (site_in l.scope) (option_map cidr_of l.only) (map (net_of_object (policy_of l.scope.topo)) (map object_seen l.objects))))
