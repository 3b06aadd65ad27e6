use Rattle.std.proofs.Common.{◌≡◌, ◌∙◌, List, Bool, true, length, vec_len, sym, ap, subst}
use Rattle.std.specs.Prelude.{◌↔◌}
use Rattle.policy_model.specs.Tags.{IsBarred}
use Rattle.nat_domains.specs.Marks.{site_of, is_marked}
use Rattle.nat_domains.specs.Spreading.{IsSpread}
use Rattle.nat_domains.proofs.Members.{written}
use Rattle.nat_domains.proofs.Coloured.{barred_by}
use Rattle.nat_domains.proofs.colour.barred_zones.Goals as goal

pub returns-clause-each : goal.returns-clause-each
returns-clause-each c =
    let new = c.spread.new.marks in
    let e = written (vec_len c.in_ok-marks.marks) new c.in_ok-marks.marks.items (sym c.deref_mut.ensures.len ∙ sym c.spread.auto.marks) in
    ap length e ∙ (c.spread.auto.marks ∙ (ap length c.deref_mut.ensures.value ∙ c.in_ok-marks.ensures.each))

pub returns-clause-barred : goal.returns-clause-barred
returns-clause-barred c =
    let s = site_of c.args.topo c.args.graph.now in
    let new = c.spread.new.marks in
    let e = written (vec_len c.in_ok-marks.marks) new c.in_ok-marks.marks.items (sym c.deref_mut.ensures.len ∙ sym c.spread.auto.marks) in
    λ z. subst (λ (xs : List Bool). (is_marked xs z ≡ true) ↔ IsBarred s c.args.tag.0 z) (sym e)
    (barred_by s c.args.tag.0 c.args.binders.now c.in_ok-marks.marks.items new c.requires.marked c.in_ok-marks.ensures.marked
    (subst (λ (xs : List Bool). IsSpread s c.args.tag.0 xs new) c.deref_mut.ensures.value c.in_ok-spread.ensures) z)
