use Rattle.std.proofs.Common.{◌≡◌, [], map, drop, true}
use Rattle.policy_model.specs.Objects.{NetObject, net_of_object}
use Rattle.topology.specs.View.{policy_of}
use Rattle.group_expand.specs.Sets.{object_seen, with_objects, are_there}
use Rattle.group_expand.proofs.members.nets_of.Given as goal

abbrev pub invariant-loop-object : goal.invariant-loop-object
invariant-loop-object l =
    (are_there (policy_of l.scope.topo) (map object_seen (drop l.object-index l.objects)) ≡ true)
    × (with_objects l.found (map (λ o. NetObject (net_of_object (policy_of l.scope.topo) o)) (map object_seen (drop l.object-index l.objects)))
    ≡ with_objects [] (map (λ o. NetObject (net_of_object (policy_of l.scope.topo) o)) (map object_seen l.objects)))
