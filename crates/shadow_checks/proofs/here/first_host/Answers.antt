use Rattle.std.proofs.Common.{◌≡◌, ◌∙◌, List, length, sym, ap, subst, ⊎_elim, arith}
use Rattle.std.proofs.lemmas.Bool.{cases_eq}
use Rattle.std.proofs.lemmas.List.{length-map}
use Rattle.policy_model.specs.Policy.{Host}
use Rattle.topology.specs.Seen.{host_seen}
use Rattle.topology.specs.View.{policy_of, sources_of}
use Rattle.nat_view.specs.Sights.{sight_of}
use Rattle.shadow_checks.specs.Holders.{HasNoHostShadow, IsLeastHostShadow}
use Rattle.spoc_base.specs.declared.ids.NetId.{NetId}
use Rattle.shadow_checks.proofs.Choosing.{none_of}
use Rattle.shadow_checks.proofs.here.first_host.Goals as goal

pub loop-h-preserved : goal.loop-h-preserved
loop-h-preserved c =
    let p = policy_of c.args.topo in
    let tags = (sight_of c.args.view).tags in
    let h = c.loop-h.h in
    let none = none_of (HasNoHostShadow p tags h) (λ (m : NetId). IsLeastHostShadow p tags h m.0) c.in_ok-net.field-0 c.in_default.not-Some c.in_ok-net.ensures in
    λ k low. ⊎_elim (λ e. subst (HasNoHostShadow p tags) (sym e) none) (λ ne. c.loop-h.invariant k (omega (arith, low, ne))) (cases_eq k h)

pub returns : goal.returns
returns c =
    let long : length (policy_of c.args.topo).hosts ≡ length c.hosts.result.now = sym (ap (λ (xs : List Host). length xs) c.hosts.ensures) ∙ length-map c.hosts.result.now (host_seen (sources_of c.args.topo)) in
    λ k low. c.loop-h.invariant k (omega (arith, low, long, c.loop-h-test.false))
