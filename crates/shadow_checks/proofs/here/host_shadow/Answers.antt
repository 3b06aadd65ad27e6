use Rattle.std.proofs.Common.{sym, subst}
use Rattle.std.specs.Prelude.{Option, IfOk, MatchOption}
use Rattle.spoc_base.specs.Shown.{interval_of}
use Rattle.spoc_base.specs.declared.ids.NetId.{NetId}
use Rattle.policy_model.specs.Policy.{Policy, Host}
use Rattle.topology.specs.View.{policy_of}
use Rattle.nat_view.specs.Sights.{sight_of}
use Rattle.shadow_checks.specs.Shadows.{HasNoShadow, IsLeastShadow}
use Rattle.shadow_checks.proofs.here.host_shadow.Goals as goal

pub returns : goal.returns
returns c =
    let p = policy_of c.args.topo in
    let tags = (sight_of c.args.view).tags in
    let host = c.host-host.result in
    let moved = subst
    (λ (q : Policy). IfOk c.range_shadow.result (λ (found : Option NetId). MatchOption found (HasNoShadow q tags host.net.0 (interval_of host.range)) (λ (m : NetId). IsLeastShadow q tags host.net.0 (interval_of host.range) m.0)))
    c.requires.seen c.range_shadow.ensures in
    subst (λ (x : Host). IfOk c.range_shadow.result (λ (found : Option NetId). MatchOption found (HasNoShadow p tags x.net x.range) (λ (m : NetId). IsLeastShadow p tags x.net x.range m.0)))
    (sym c.host-host.ensures.seen) moved
