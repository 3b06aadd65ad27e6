use Rattle.std.proofs.Common.{◌≡◌, ◌∙◌, map, refl}
use Rattle.policy_model.specs.Objects.{NetObject, net_of_object, object_set}
use Rattle.topology.specs.View.{policy_of}
use Rattle.group_expand.specs.Sets.{object_seen}
use Rattle.group_expand.proofs.Loops.{if_ok, set_end}
use Rattle.group_expand.proofs.members.nets_of.Goals as goal

pub returns : goal.returns
returns c =
    let all = object_set (map (λ o. NetObject (net_of_object (policy_of c.args.scope.now.topo) o)) (map object_seen c.args.objects.now)) in
    if_ok c.list.result (λ found. map object_seen found.items ≡ c.loop-object.found) (λ found. map object_seen found.items ≡ all)
    (λ found e. e ∙ set_end (λ os. map (λ o. NetObject (net_of_object (policy_of c.args.scope.now.topo) o)) (map object_seen os)) c.args.objects.now c.loop-object.object-index c.loop-object.found refl
    c.loop-object-test.false c.loop-object.invariant.1) c.list.ensures
