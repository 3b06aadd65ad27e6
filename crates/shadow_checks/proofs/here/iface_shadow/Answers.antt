use Rattle.std.proofs.Common.{◌≡◌, ◌∙◌, ℕ, Some, None, sym, ap, subst}
use Rattle.std.specs.Prelude.{option_map, IsTrue, MatchOption}
use Rattle.spoc_base.specs.Address.{prefix_holds}
use Rattle.spoc_base.specs.declared.address.Addr.{Addr}
use Rattle.spoc_base.specs.declared.ids.NetId.{NetId}
use Rattle.policy_model.specs.Policy.{Policy, Iface, net_of, net_at}
use Rattle.policy_model.specs.Permits.{one_address}
use Rattle.policy_model.specs.FirstFault.{address_at}
use Rattle.topology.specs.View.{policy_of}
use Rattle.nat_view.specs.Sights.{sight_of}
use Rattle.shadow_checks.specs.Shadows.{HasNoShadow, IsLeastShadow}
use Rattle.shadow_checks.proofs.Owned.{of_iface, no_address, its_network}
use Rattle.shadow_checks.proofs.here.iface_shadow.Goals as goal

pub address_shadow-requires-clause-inside : goal.address_shadow-requires-clause-inside
address_shadow-requires-clause-inside c =
    let p = policy_of c.args.topo in
    let a = c.in-Some.a.0 in
    let addr : address_at p c.args.i.0 c.args.shared ≡ Some a = sym c.iface_address-address.ensures ∙ ap (option_map (λ (b : Addr). b.0)) c.in-Some.is in
    let net : c.iface.result.net.0 ≡ net_at p c.args.i.0 = sym (ap (λ (x : Iface). x.net) c.iface.ensures.seen) in
    subst (λ (q : Policy). IsTrue (prefix_holds (net_of q c.iface.result.net.0).own a)) (sym c.requires.seen)
    (subst (λ (n : ℕ). IsTrue (prefix_holds (net_of p n).own a)) (sym net) (its_network p c.args.topo.kept.sound.well_formed c.args.i.0 a c.args.shared c.requires.there addr))

pub returns-in-Some : goal.returns-in-Some
returns-in-Some c =
    let p = policy_of c.args.topo in
    let tags = (sight_of c.args.view).tags in
    let i = c.args.i.0 in
    let a = c.in-Some.a.0 in
    let o = c.address_shadow.result in
    let at = c.iface.result.net.0 in
    let addr : address_at p i c.args.shared ≡ Some a = sym c.iface_address-address.ensures ∙ ap (option_map (λ (b : Addr). b.0)) c.in-Some.is in
    let net : at ≡ net_at p i = sym (ap (λ (x : Iface). x.net) c.iface.ensures.seen) in
    let here = subst (λ (q : Policy). MatchOption o (HasNoShadow q tags at (one_address a)) (λ (m : NetId). IsLeastShadow q tags at (one_address a) m.0)) c.requires.seen c.address_shadow.ensures in
    of_iface p tags i a c.args.shared addr o (subst (λ (n : ℕ). MatchOption o (HasNoShadow p tags n (one_address a)) (λ (m : NetId). IsLeastShadow p tags n (one_address a) m.0)) net here)

pub returns-in-None : goal.returns-in-None
returns-in-None c =
    let p = policy_of c.args.topo in
    let none : address_at p c.args.i.0 c.args.shared ≡ None = sym c.iface_address-address.ensures ∙ ap (option_map (λ (b : Addr). b.0)) c.in-None.is in
    no_address p (sight_of c.args.view).tags c.args.i.0 c.args.shared none
