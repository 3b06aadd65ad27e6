use Rattle.std.proofs.Common.{◌≡◌, ◌∙◌, ◌+◌, ℕ, List, Bool, length, vec_len, sym, ap, subst, arith}
use Rattle.policy_model.specs.Policy.{router_at}
use Rattle.policy_model.specs.Tags.{binds}
use Rattle.topology.specs.View.{policy_of}
use Rattle.nat_domains.specs.Marks.{with_mark, AreMarkedBy}
use Rattle.nat_domains.proofs.Members.{written}
use Rattle.nat_domains.proofs.Coloured.{none_marked, one_marked}
use Rattle.nat_domains.proofs.colour.binders.Goals as goal

pub loop-i-init : goal.loop-i-init
loop-i-init c =
    let p = policy_of c.args.topo in
    (c.in_ok-marks.ensures.each ∙ c.router_count.ensures, none_marked (λ i. binds (policy_of c.args.topo) i c.args.tag.0) (router_at (policy_of c.args.topo)) c.in_ok-marks.marks.items c.in_ok-marks.ensures.none)

pub loop-i-preserved : goal.loop-i-preserved
loop-i-preserved c =
    let p = policy_of c.args.topo in
    let old = c.loop-i.marks.items in
    let new = c.mark_if.new.marks in
    let at = c.router_of_iface-r.result.0 in
    let e = written (vec_len c.loop-i.marks) new old (sym c.deref_mut.ensures.len ∙ sym c.mark_if.auto.marks) in (
      ap length e ∙ (c.mark_if.auto.marks ∙ (ap length c.deref_mut.ensures.value ∙ c.loop-i.invariant.0)),
      subst (λ (xs : List Bool). AreMarkedBy (λ i. binds (policy_of c.args.topo) i c.args.tag.0) (router_at (policy_of c.args.topo)) (c.loop-i.i + 1) xs) (sym e)
          (one_marked (λ i. binds (policy_of c.args.topo) i c.args.tag.0) (router_at (policy_of c.args.topo)) c.loop-i.i old new at c.is_bound.result (sym c.is_bound.ensures) (sym c.router_of_iface-r.ensures.value)
          (omega (arith, c.router_of_iface-r.ensures.below, c.loop-i.invariant.0)) (c.mark_if.ensures ∙ ap (λ (m : List Bool). with_mark m at c.is_bound.result) c.deref_mut.ensures.value)
          c.loop-i.invariant.1),
    )

pub returns-clause-marked : goal.returns-clause-marked
returns-clause-marked c =
    let e : c.loop-i.i ≡ length (policy_of c.args.topo).ifaces = omega (arith, c.loop-i-test.false, c.loop-i.auto.i-end, c.iface_count-i-end.ensures) in
    subst (λ (n : ℕ). AreMarkedBy (λ i. binds (policy_of c.args.topo) i c.args.tag.0) (router_at (policy_of c.args.topo)) n c.loop-i.marks.items) e c.loop-i.invariant.1
