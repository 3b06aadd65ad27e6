use Rattle.std.proofs.Common.{◌≡◌, ◌∙◌, ◌+◌, ℕ, List, Bool, length, vec_len, sym, ap, subst, arith}
use Rattle.std.specs.Prelude.{not, ◌&&◌}
use Rattle.policy_model.specs.Policy.{router_at}
use Rattle.policy_model.specs.Zones.{zone_at}
use Rattle.topology.specs.View.{policy_of}
use Rattle.nat_domains.specs.Marks.{site_of, is_marked, with_mark, AreMarkedBy}
use Rattle.nat_domains.proofs.Members.{written}
use Rattle.nat_domains.proofs.Coloured.{none_marked, one_marked, inner_by}
use Rattle.nat_domains.proofs.colour.inner_routers.Goals as goal

pub loop-i-init : goal.loop-i-init
loop-i-init c =
    let p = policy_of c.args.topo in
    (c.in_ok-marks.ensures.each ∙ c.router_count.ensures, none_marked (λ i. not (is_marked c.args.binders.now (router_at (policy_of c.args.topo) i)) && is_marked c.args.active.now (zone_at (site_of c.args.topo c.args.graph.now) i)) (router_at (policy_of c.args.topo)) c.in_ok-marks.marks.items c.in_ok-marks.ensures.none)

pub loop-i-preserved : goal.loop-i-preserved
loop-i-preserved c =
    let p = policy_of c.args.topo in
    let old = c.loop-i.marks.items in
    let new = c.mark_if.new.marks in
    let at = c.router_of_iface-r.result.0 in
    let e = written (vec_len c.loop-i.marks) new old (sym c.deref_mut.ensures.len ∙ sym c.mark_if.auto.marks) in (
      ap length e ∙ (c.mark_if.auto.marks ∙ (ap length c.deref_mut.ensures.value ∙ c.loop-i.invariant.0)),
      subst (λ (xs : List Bool). AreMarkedBy (λ i. not (is_marked c.args.binders.now (router_at (policy_of c.args.topo) i)) && is_marked c.args.active.now (zone_at (site_of c.args.topo c.args.graph.now) i)) (router_at (policy_of c.args.topo)) (c.loop-i.i + 1) xs) (sym e)
          (one_marked (λ i. not (is_marked c.args.binders.now (router_at (policy_of c.args.topo) i)) && is_marked c.args.active.now (zone_at (site_of c.args.topo c.args.graph.now) i)) (router_at (policy_of c.args.topo)) c.loop-i.i old new at c.sees_inside.result (sym c.sees_inside.ensures) (sym c.router_of_iface-r.ensures.value)
          (omega (arith, c.router_of_iface-r.ensures.below, c.loop-i.invariant.0)) (c.mark_if.ensures ∙ ap (λ (m : List Bool). with_mark m at c.sees_inside.result) c.deref_mut.ensures.value)
          c.loop-i.invariant.1),
    )

pub returns-clause-inner : goal.returns-clause-inner
returns-clause-inner c =
    let s = site_of c.args.topo c.args.graph.now in
    let e : c.loop-i.i ≡ length (policy_of c.args.topo).ifaces = omega (arith, c.loop-i-test.false, c.loop-i.auto.i-end, c.iface_count-i-end.ensures) in
    inner_by s c.args.tag.0 c.args.binders.now c.args.active.now c.loop-i.marks.items c.requires.marked c.requires.active
    (subst (λ (n : ℕ). AreMarkedBy (λ i. not (is_marked c.args.binders.now (router_at (policy_of c.args.topo) i)) && is_marked c.args.active.now (zone_at (site_of c.args.topo c.args.graph.now) i)) (router_at (policy_of c.args.topo)) n c.loop-i.marks.items) e c.loop-i.invariant.1)
