use Rattle.std.proofs.Common.{true, false, subst}
use Rattle.std.specs.Prelude.{Option, MatchOption}
use Rattle.spoc_base.specs.declared.ids.NetId.{NetId}
use Rattle.topology.specs.View.{policy_of}
use Rattle.nat_view.specs.Sights.{sight_of}
use Rattle.shadow_checks.specs.Holders.{HasNoIfaceShadow, IsLeastIfaceShadow}
use Rattle.shadow_checks.proofs.Choosing.{none_of}
use Rattle.shadow_checks.proofs.Owned.{neither}
use Rattle.shadow_checks.proofs.here.first_address.Goals as goal

pub returns-in-None : goal.returns-in-None
returns-in-None c =
    let p = policy_of c.args.topo in
    let tags = (sight_of c.args.view).tags in
    let i = c.args.i.0 in
    neither p tags i (none_of (HasNoIfaceShadow p tags i false) (λ (m : NetId). IsLeastIfaceShadow p tags i false m.0) c.iface_shadow.result c.in_default.not-Some c.iface_shadow.ensures)
    (subst (λ (o : Option NetId). MatchOption o (HasNoIfaceShadow p tags i true) (λ (m : NetId). IsLeastIfaceShadow p tags i true m.0)) c.in-None.is c.iface_shadow-2.ensures)
