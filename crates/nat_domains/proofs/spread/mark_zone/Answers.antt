use Rattle.std.proofs.Common.{◌∙◌, sym, ap, subst, arith, ℕ, List, true, set, [], ◌∷◌}
use Rattle.nat_domains.specs.Marks.{site_of, is_marked}
use Rattle.nat_domains.specs.Spreading.{MarksZonesOf}
use Rattle.nat_domains.proofs.Marking.{bound_left, marked_left, newly_marked}
use Rattle.nat_domains.proofs.spread.mark_zone.Goals as goal

pub returns-then-is_bound : goal.returns-then-is_bound
returns-then-is_bound c =
    record { marked = bound_left (site_of c.args.topo c.args.graph.now) c.args.tag.0 c.args.i.0 c.args.marks.now c.args.waiting.now.items (sym c.is_bound.ensures ∙ c.if-is_bound.true) }

pub returns-then-marks-z : goal.returns-then-marks-z
returns-then-marks-z c =
    let s = site_of c.args.topo c.args.graph.now in
    record {
      marked = marked_left s c.args.tag.0 c.args.i.0 c.args.marks.now c.args.waiting.now.items
          (ap (λ (z : ℕ). is_marked c.args.marks.now z) (sym c.zone_of_iface-z.ensures.value) ∙ c.if-marks-z.true);
    }

pub returns : goal.returns
returns c =
    let s = site_of c.args.topo c.args.graph.now in
    let z = c.zone_of_iface-z.result.0 in
    record {
      marked = subst (λ (w : List ℕ). MarksZonesOf s c.args.tag.0 (c.args.i.0 ∷ []) c.args.marks.now (set c.args.marks.now z true) c.args.waiting.now.items w) (sym c.in_ok-push.ensures.items)
          (newly_marked s c.args.tag.0 c.args.i.0 z c.args.marks.now c.args.waiting.now.items (sym c.zone_of_iface-z.ensures.value)
          (omega (arith, c.zone_of_iface-z.ensures.below, c.requires.each)) (sym c.is_bound.ensures ∙ c.if-is_bound.false) c.if-marks-z.false);
    }
