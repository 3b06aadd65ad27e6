use Rattle.std.proofs.Common.{◌≡◌, ◌∙◌, List, map, flat_map, refl}
use Rattle.policy_model.specs.Objects.{hosts_of_object, object_set}
use Rattle.topology.specs.View.{policy_of}
use Rattle.group_expand.specs.declared.object.Object.{Object}
use Rattle.group_expand.specs.Sets.{object_seen}
use Rattle.group_expand.proofs.Loops.{if_ok, set_end, item_more}
use Rattle.group_expand.proofs.ObjectLists.{there_rest}
use Rattle.group_expand.proofs.members.hosts_of.Goals as goal

pub loop-object-preserved : goal.loop-object-preserved
loop-object-preserved c =
    let p = policy_of c.args.scope.now.topo in (
      there_rest p c.args.objects.now c.loop-object.object-index c.loop-object-test.true c.loop-object.invariant.0,
      item_more (λ os. flat_map (hosts_of_object p) (map object_seen os)) (λ o. hosts_of_object p (object_seen o)) (λ o os. refl) c.args.objects.now c.loop-object.object-index _
          c.loop-object.found c.add_hosts.new.found _ c.loop-object-test.true c.in_ok-add_hosts.ensures c.loop-object.invariant.1,
    )

pub returns : goal.returns
returns c =
    let F = λ (os : List Object). flat_map (hosts_of_object (policy_of c.args.scope.now.topo)) (map object_seen os) in
    if_ok c.list.result (λ found. map object_seen found.items ≡ c.loop-object.found) (λ found. map object_seen found.items ≡ object_set (F c.args.objects.now))
    (λ found e. e ∙ set_end F c.args.objects.now c.loop-object.object-index c.loop-object.found refl c.loop-object-test.false c.loop-object.invariant.1) c.list.ensures
