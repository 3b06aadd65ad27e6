use Rattle.std.proofs.Common.{map, sym, subst, ◌∙◌}
use Rattle.std.proofs.lemmas.Bool.{false≢true}
use Rattle.std.proofs.Math.ListN.{get_or-map}
use Rattle.spoc_base.specs.Shown.{interval_of}
use Rattle.spoc_base.specs.declared.ids.NetId.{NetId}
use Rattle.nat_view.specs.Sights.{sight_of}
use Rattle.shadow_checks.specs.Lying.{HasOneAt}
use Rattle.shadow_checks.specs.Shadows.{IsOther}
use Rattle.shadow_checks.proofs.Choosing.{none_more}
use Rattle.shadow_checks.proofs.least.first_of.Goals as goal
use Rattle.shadow_checks.proofs.least.first_of.Goals.{else-m-n-via-then-m-n+else-lies_at, else-m-n-via-else-m-n}

pub loop-k-preserved : goal.loop-k-preserved
loop-k-preserved c =
    let s = sight_of c.args.view in
    let range = interval_of c.args.range in
    let ids = c.args.nets.now in
    let k = c.loop-k.k in
    let at = get_or-map (λ (m : NetId). m.0) ids k (record { 0 = 0 }) in
    none_more (IsOther s.policy s.tags c.args.n.0 range) (map (λ (m : NetId). m.0) ids) k c.loop-k.invariant (λ w.
    elim c.else-m-n.branch [
      | else-m-n-via-then-m-n+else-lies_at v ↦ false≢true (sym v.if-lies_at.false ∙ v.lies_at.ensures.1 (subst (HasOneAt s.policy s.tags range) at w.here))
      | else-m-n-via-else-m-n v ↦ w.differs (at ∙ v.if-m-n.false)
    ])
