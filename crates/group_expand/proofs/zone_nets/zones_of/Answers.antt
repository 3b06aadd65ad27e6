use Rattle.std.proofs.Common.{◌≡◌, ◌∙◌, ℕ, List, map, ap, refl}
use Rattle.std.specs.Prelude.{option_map}
use Rattle.spoc_base.specs.Shown.{cidr_of}
use Rattle.policy_model.specs.Objects.{net_of_object, object_set, zone_nets}
use Rattle.policy_model.specs.Zones.{zone_of}
use Rattle.topology.specs.View.{policy_of}
use Rattle.group_expand.specs.declared.object.Object.{Object}
use Rattle.group_expand.specs.Scope.{site_in}
use Rattle.group_expand.specs.Sets.{object_seen, with_objects, zone_objects}
use Rattle.group_expand.proofs.Loops.{if_ok, set_end, item_more}
use Rattle.group_expand.proofs.ObjectLists.{there_rest}
use Rattle.group_expand.proofs.Gathering.{zone_nets_cons}
use Rattle.group_expand.proofs.zone_nets.zones_of.Goals as goal

pub loop-object-preserved : goal.loop-object-preserved
loop-object-preserved c =
    let p = policy_of c.args.scope.now.topo in
    let s = site_in c.args.scope.now in
    let only = option_map cidr_of c.args.only in (
      there_rest p c.args.objects.now c.loop-object.object-index c.loop-object-test.true c.loop-object.invariant.0,
      c.in_ok-add_zone_of.ensures.done,
      item_more (λ os. zone_nets s only (map (net_of_object p) (map object_seen os))) (λ o. zone_objects s only (zone_of s (net_of_object p (object_seen o))))
          (λ o os. zone_nets_cons s only (net_of_object p (object_seen o)) (map (net_of_object p) (map object_seen os))) c.args.objects.now c.loop-object.object-index _
          c.loop-object.found c.add_zone_of.new.found _ c.loop-object-test.true
          (c.in_ok-add_zone_of.ensures.found ∙ ap (λ (n : ℕ). with_objects c.loop-object.found (zone_objects s only (zone_of s n))) c.net_of-net.ensures.value) c.loop-object.invariant.2,
    )

pub returns : goal.returns
returns c =
    let F = λ (os : List Object). zone_nets (site_in c.args.scope.now) (option_map cidr_of c.args.only) (map (net_of_object (policy_of c.args.scope.now.topo)) (map object_seen os)) in
    if_ok c.list.result (λ found. map object_seen found.items ≡ c.loop-object.found) (λ found. map object_seen found.items ≡ object_set (F c.args.objects.now))
    (λ found e. e ∙ set_end F c.args.objects.now c.loop-object.object-index c.loop-object.found refl c.loop-object-test.false c.loop-object.invariant.2) c.list.ensures
