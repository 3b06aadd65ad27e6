use Rattle.std.proofs.Common.{◌∙◌}
use Rattle.std.specs.Prelude.{MatchOption}
use Rattle.spoc_base.specs.Address.{Interval}
use Rattle.spoc_base.specs.Shown.{interval_of}
use Rattle.spoc_base.specs.declared.ids.NetId.{NetId}
use Rattle.nat_view.specs.Sights.{sight_of}
use Rattle.shadow_checks.specs.Shadows.{HasNoShadow, IsLeastShadow}
use Rattle.shadow_checks.proofs.Moved.{as_range}
use Rattle.shadow_checks.proofs.least.range_shadow.Goals as goal

pub returns-then-first-hi : goal.returns-then-first-hi
returns-then-first-hi c =
    let s = sight_of c.args.view in
    let n = c.args.n.0 in
    as_range (λ (r : Interval). MatchOption c.address_shadow.result (HasNoShadow s.policy s.tags n r) (λ (m : NetId). IsLeastShadow s.policy s.tags n r m.0)) (interval_of c.args.range) c.lo-first.result.0
    c.lo-first.ensures.value (c.if-first-hi.true ∙ c.hi.ensures) c.address_shadow.ensures
