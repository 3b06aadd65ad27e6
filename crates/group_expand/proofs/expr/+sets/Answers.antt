use Rattle.std.proofs.Common.{◌≡◌, ◌∙◌, map, refl, sym, ap, rules}
use Rattle.policy_model.specs.Objects.{NetObject, net_of_object, object_set}
use Rattle.topology.specs.Expressions.{expr_of, term_of}
use Rattle.topology.specs.View.{policy_of}
use Rattle.topology.specs.declared.sets.Union.{out-Union}
use Rattle.topology.specs.declared.sets.Inter.{out-Inter}
use Rattle.group_expand.specs.Scope.{objects_in}
use Rattle.group_expand.specs.Sets.{object_seen}
use Rattle.group_expand.proofs.Loops.{if_ok, items_end}
use Rattle.group_expand.proofs.UnionSets.{first_sound, next_term_sound, parts_left_sound, parts_on, objects_to_come}
use Rattle.topology.specs.declared.sets.Term.TheViews.{the_lemmas}
use Rattle.group_expand.proofs.expr.+sets.Goals as goal

pub of_part-of_term-requires : goal.of_part-of_term-requires
of_part-of_term-requires t c = (search (rules, the_lemmas), (c.requires.scope, first_sound (policy_of c.args.scope.now.topo) c.args.part.now c.requires.sound))

pub of_part-of_term-requires-in-loop-further : goal.of_part-of_term-requires-in-loop-further
of_part-of_term-requires-in-loop-further t c = (
  search (rules, the_lemmas),
  (
    c.requires.scope,
    next_term_sound (policy_of c.args.scope.now.topo) (out-Inter c.args.part.now).rest.now c.loop-further.further-index c.further-item.result c.loop-further-test.true c.further-item.is
        c.loop-further.invariant.0,
  ),
)

pub of_union-loop-part-preserved : goal.of_union-loop-part-preserved
of_union-loop-part-preserved t c =
    let parts = (out-Union c.args.set.now).parts.now in (
      parts_left_sound (policy_of c.args.scope.now.topo) parts c.loop-part.part-index c.part-item.result c.loop-part-test.true c.loop-part.invariant.0,
      parts_on c.args.scope.now c.loop-part.found c.add_all.new.self (map object_seen c.deref.result.now) _ parts c.loop-part.part-index c.part-item.result c.loop-part-test.true c.part-item.is
          c.in_ok-add_all.ensures (ap (map object_seen) c.deref.ensures.value ∙ c.in_ok-objects.ensures) c.loop-part.invariant.1,
    )

pub of_union-returns : goal.of_union-returns
of_union-returns t c =
    if_ok c.list.result (λ found. map object_seen found.items ≡ c.loop-part.found) (λ found. map object_seen found.items ≡ objects_in c.args.scope.now (expr_of c.args.set.now))
    (λ found e. e ∙ items_end (objects_to_come c.args.scope.now) (out-Union c.args.set.now).parts.now c.loop-part.part-index c.loop-part.found _ refl c.loop-part-test.false c.loop-part.invariant.1)
    c.list.ensures

pub of_term-returns-in_ok-inner-in-Nets : goal.of_term-returns-in_ok-inner-in-Nets
of_term-returns-in_ok-inner-in-Nets t c =
    let p = policy_of c.args.scope.now.topo in
    if_ok c.nets_of.result (λ found. map object_seen found.items ≡ object_set (map (λ o. NetObject (net_of_object p o)) (map object_seen c.deref.result.now)))
    (λ found. map object_seen found.items ≡ objects_in c.args.scope.now (term_of c.args.term.now))
    (λ found is. is ∙ (ap (λ l. object_set (map (λ o. NetObject (net_of_object p o)) l)) (ap (map object_seen) c.deref.ensures.value ∙ c.in_ok-inner-in-Nets.ensures)
    ∙ sym (ap (λ e. objects_in c.args.scope.now (term_of e)) c.in-Nets.is)))
    c.nets_of.ensures
