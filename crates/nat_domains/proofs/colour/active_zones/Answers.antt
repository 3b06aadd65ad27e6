use Rattle.std.proofs.Common.{◌≡◌, ◌∙◌, List, Bool, true, length, vec_len, sym, ap, subst}
use Rattle.std.specs.Prelude.{◌↔◌}
use Rattle.policy_model.specs.Tags.{IsActive}
use Rattle.nat_domains.specs.Marks.{site_of, is_marked}
use Rattle.nat_domains.specs.Spreading.{IsSpread}
use Rattle.nat_domains.proofs.Members.{written}
use Rattle.nat_domains.proofs.Coloured.{active_by}
use Rattle.nat_domains.proofs.colour.active_zones.Goals as goal

pub returns-clause-each : goal.returns-clause-each
returns-clause-each c =
    let new = c.spread.new.marks in
    let e = written (vec_len c.in_ok-marks.marks) new c.in_ok-marks.marks.items (sym c.deref_mut.ensures.len ∙ sym c.spread.auto.marks) in
    ap length e ∙ (c.spread.auto.marks ∙ (ap length c.deref_mut.ensures.value ∙ c.in_ok-marks.ensures.each))

pub returns-clause-active : goal.returns-clause-active
returns-clause-active c =
    let s = site_of c.args.topo c.args.graph.now in
    let new = c.spread.new.marks in
    let e = written (vec_len c.in_ok-marks.marks) new c.in_ok-marks.marks.items (sym c.deref_mut.ensures.len ∙ sym c.spread.auto.marks) in
    λ z. subst (λ (xs : List Bool). (is_marked xs z ≡ true) ↔ IsActive s c.args.tag.0 z) (sym e)
    (active_by s c.args.tag.0 c.in_ok-marks.marks.items new c.in_ok-marks.ensures.marked
    (subst (λ (xs : List Bool). IsSpread s c.args.tag.0 xs new) c.deref_mut.ensures.value c.in_ok-spread.ensures) z)
