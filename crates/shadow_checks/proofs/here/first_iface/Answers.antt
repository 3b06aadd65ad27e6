use Rattle.std.proofs.Common.{◌≡◌, ◌∙◌, List, length, sym, ap, subst, ⊎_elim, arith}
use Rattle.std.proofs.lemmas.Bool.{cases_eq}
use Rattle.std.proofs.lemmas.List.{length-map}
use Rattle.policy_model.specs.Policy.{Iface}
use Rattle.topology.specs.Seen.{iface_seen}
use Rattle.topology.specs.View.{policy_of, sources_of}
use Rattle.nat_view.specs.Sights.{sight_of}
use Rattle.shadow_checks.specs.Holders.{HasNoAddress}
use Rattle.shadow_checks.proofs.here.first_iface.Goals as goal

pub loop-i-preserved : goal.loop-i-preserved
loop-i-preserved c =
    let p = policy_of c.args.topo in
    let tags = (sight_of c.args.view).tags in
    let i = c.loop-i.i in
    λ k low. ⊎_elim (λ e. subst (HasNoAddress p tags) (sym e) c.in_default.ensures) (λ ne. c.loop-i.invariant k (omega (arith, low, ne))) (cases_eq k i)

pub returns : goal.returns
returns c =
    let long : length (policy_of c.args.topo).ifaces ≡ length c.ifaces.result.now = sym (ap (λ (xs : List Iface). length xs) c.ifaces.ensures) ∙ length-map c.ifaces.result.now (iface_seen (sources_of c.args.topo)) in
    λ k low. c.loop-i.invariant k (omega (arith, low, long, c.loop-i-test.false))
