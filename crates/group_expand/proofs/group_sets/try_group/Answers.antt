use Rattle.std.proofs.Common.{◌≡◌, ◌∙◌, ap, sym, subst, map, true, List, [], refl}
use Rattle.policy_model.specs.Objects as plain
use Rattle.policy_model.specs.Objects.{objects_by}
use Rattle.policy_model.specs.Policy.{group_of}
use Rattle.topology.specs.View.{policy_of}
use Rattle.group_expand.specs.Groups.{waits}
use Rattle.group_expand.specs.Scope.{site_at}
use Rattle.group_expand.specs.Sets.{are_there, group_set, object_seen, rows_seen}
use Rattle.group_expand.proofs.GroupOrder.{group_more, group_sound, rows_set}
use Rattle.group_expand.proofs.SoundSets.{objects_there}
use Rattle.group_expand.proofs.group_sets.try_group.Goals as goal

pub returns-clause-filled : goal.returns-clause-filled
returns-clause-filled c =
    let s = site_at c.args.base.now in
    let p = policy_of c.args.base.now.topo in
    let areas = c.args.base.now.areas.now in
    let old = rows_seen c.args.groups.now in
    let e = (group_of p c.args.g).objects in
    let row = map object_seen c.in_ok-groups.field-0.items in
    group_more s areas c.args.done.now _ old _ c.args.g row c.requires.there c.if-done-g.false
    (ap (λ x. waits c.args.done.now x.objects) c.group.ensures.seen ∙ (sym c.waits.ensures ∙ c.if-waits.false)) c.in_ok-groups.ensures
    (subst (λ (l : List plain.Object). are_there p l ≡ true) (sym c.in_ok-groups.ensures)
    (objects_there s areas (group_set old) [] c.args.base.now.topo.kept.sound c.requires.base.graph.table.each c.requires.filled.there refl e (group_sound p c.args.g c.args.base.now.topo.kept.sound c.requires.there)))
    (rows_set c.args.groups.now _ c.args.g c.in_ok-groups.field-0 refl) refl c.requires.filled
