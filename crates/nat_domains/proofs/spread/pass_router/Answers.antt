use Rattle.std.proofs.Common.{◌∙◌, ◌∷◌, ℕ, true, set, sym, subst, arith}
use Rattle.policy_model.specs.Tags.{ifaces_of}
use Rattle.policy_model.specs.Zones.{zone_at}
use Rattle.topology.specs.View.{policy_of}
use Rattle.nat_domains.specs.Marks.{site_of}
use Rattle.nat_domains.specs.Spreading.{MarksZonesOf, StaysSpreading}
use Rattle.nat_domains.proofs.Passing.{router_passed}
use Rattle.nat_domains.proofs.spread.pass_router.Goals as goal

pub returns-clause-stays : goal.returns-clause-stays
returns-clause-stays c =
    let s = site_of c.args.topo c.args.graph.now in
    let p = policy_of c.args.topo in
    let r = c.router_of_iface-r.result.0 in
    let e = c.router_of_iface-r.ensures.value in
    subst
    (λ (x : ℕ). StaysSpreading s c.args.tag.0 c.args.marks.now (zone_at s c.args.i.0 ∷ c.args.waiting.now.items) c.args.passed.now c.mark_zones.new.marks
    (zone_at s c.args.i.0 ∷ c.mark_zones.new.waiting.items) (set c.args.passed.now x true)) (sym e)
    (router_passed s c.args.tag.0 c.args.i.0 c.args.marks.now c.mark_zones.new.marks c.args.waiting.now.items c.mark_zones.new.waiting.items c.args.passed.now c.requires.there
    c.requires.managed (sym c.is_bound.ensures ∙ c.if-is_bound.false) (omega (arith, e, c.router_of_iface-r.ensures.below, c.requires.routers))
    (subst (λ (x : ℕ). MarksZonesOf s c.args.tag.0 (ifaces_of p x) c.args.marks.now c.mark_zones.new.marks c.args.waiting.now.items c.mark_zones.new.waiting.items) e
    c.in_ok-mark_zones.ensures.marked))
