use Rattle.std.proofs.Common.{◌≡◌, ◌∙◌, [], true, map, ap, sym, subst}
use Rattle.policy_model.specs.Policy.{group_of}
use Rattle.policy_model.specs.Objects.{objects_by}
use Rattle.topology.specs.Expressions.{expr_of}
use Rattle.topology.specs.Sound.{is_sound_expr}
use Rattle.topology.specs.View.{policy_of}
use Rattle.group_expand.specs.Scope.{site_at}
use Rattle.group_expand.specs.Sets.{group_set, object_seen, rows_seen}
use Rattle.group_expand.proofs.Loops.{if_ok}
use Rattle.group_expand.proofs.GroupOrder.{group_sound}
use Rattle.group_expand.proofs.group_sets.set_of.Goals as goal

pub of_union-requires-clause-sound : goal.of_union-requires-clause-sound
of_union-requires-clause-sound c =
    let p = policy_of c.args.base.now.topo in
    subst (λ x. is_sound_expr p true true x.objects ≡ true) c.group.ensures.seen (group_sound p c.args.g c.args.base.now.topo.kept.sound c.requires.there)

pub returns : goal.returns
returns c =
    let p = policy_of c.args.base.now.topo in
    let s = site_at c.args.base.now in
    let areas = c.args.base.now.areas.now in
    if_ok c.of_union.result (λ found. map object_seen found.items ≡ objects_by s areas (group_set (rows_seen c.args.groups.now)) [] (expr_of c.group.result.objects.now))
    (λ found. map object_seen found.items ≡ objects_by s areas (group_set (rows_seen c.args.groups.now)) [] (group_of p c.args.g).objects)
    (λ found e. e ∙ ap (λ x. objects_by s areas (group_set (rows_seen c.args.groups.now)) [] x.objects) (sym c.group.ensures.seen)) c.of_union.ensures
