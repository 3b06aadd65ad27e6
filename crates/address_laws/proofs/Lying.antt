-- Addresses of hosts and interfaces lie at their own networks, in each view where none lies at another one.
use Rattle.std.proofs.Common.{◌≡◌, ℕ, ◌-◌, ◌<◌, ◌^◌, inl, inr, Bool, true, false, List, length, ap, sym, subst, ◌∙◌, ⊎_elim, arith}
use Rattle.std.specs.Prelude.{◌==◌, Some, is_some, option_and_then}
use Rattle.std.specs.Option.{option_map_or}
use Rattle.std.proofs.lemmas.Bool.{cases_Bool, eq-eqb, false≢true}
use Rattle.std.proofs.lemmas.Nat.{pow_pos}
use Rattle.spoc_base.specs.Address.{within, prefix_holds}
use Rattle.policy_model.specs.Policy.{Policy, net_of, host_of, net_at}
use Rattle.policy_model.specs.Places.{prefix_in, translated_address, place, is_number, is_placed_at}
use Rattle.policy_model.specs.Packets.{is_unambiguous_point}
use Rattle.policy_model.specs.Permits.{Point, one_address}
use Rattle.policy_model.specs.Faults.{IsShadowed}
use Rattle.policy_model.specs.FirstFault.{HostShadowed, IfaceShadowed, ViewPlace, view_at, is_there, address_at}
use Rattle.policy_model.specs.Headline.{Meaning}
use Rattle.policy_laws.specs.Secured.{IsEnd}
use Rattle.policy_laws.specs.Shaped.{IsShaped}
use Rattle.policy_laws.proofs.Cover.{from_within, within_from, holds_from}
use Rattle.topology.specs.First.{HasNone}
use Rattle.topology.specs.Sound.{IsSound}
use Rattle.address_laws.specs.Held.{IsOfHost, IsOfIface, IsHeld}
use Rattle.address_laws.proofs.Own.{some_prefix, held_there, some_place}

-- ---- own addresses

-- the network of a held address is there, and holds it
pub record IsOwn (p : Policy) (e : Point) : Type 0 where
  pub below : e.net < length p.nets
  pub holds : prefix_holds (net_of p e.net).own e.addr ≡ true

host_holds : (p : Policy) (h a : ℕ) → IsEnd p (record { net = (host_of p h).net; range = (host_of p h).range }) → within (host_of p h).range a ≡ true → prefix_holds (net_of p (host_of p h).net).own a ≡ true
host_holds p h a end inside =
    let w = from_within (host_of p h).range a inside in
    let own = (net_of p (host_of p h).net).own in
    let first = end.first in
    let last = end.last in
    let low = w.0 in
    let high = w.1 in
    let some : 0 < 2 ^ (32 - own.len) = pow_pos (32 - own.len) in
    holds_from own a (omega (arith, first, low)) (omega (arith, last, high, some))

pub own_address_held : (p : Policy) → IsSound p → IsShaped p → (e : Point) → IsHeld p e → IsOwn p e
own_address_held p sound shaped e (inl w) =
    let h : ℕ = w.0 in
    let of : IsOfHost p e h = w.1 in
    record {
      below = subst (λ n. n < length p.nets) of.net (sound.numbered.hosts h of.there);
      holds = subst (λ n. prefix_holds (net_of p n).own e.addr ≡ true) of.net (host_holds p h e.addr (shaped.hosts h of.there) of.inside);
    }
own_address_held p sound shaped e (inr w) =
    let i : ℕ = w.0 in
    let of : IsOfIface p e i = w.1 in
    record {
      below = subst (λ n. n < length p.nets) of.net (sound.numbered.placed i of.there).0;
      holds = subst (λ n. prefix_holds (net_of p n).own e.addr ≡ true) of.net (in_net of.shared of.its);
    }
  where
    in_net : (shared : Bool) → address_at p w.0 shared ≡ Some e.addr → prefix_holds (net_of p (net_at p w.0)).own e.addr ≡ true
    in_net true its = (sound.well_formed.shared w.0 e.addr w.1.there its).1
    in_net false its = shaped.ifaces w.0 e.addr its

-- ---- no other network

module _ (m : Meaning) (none : HasNone m 6 6) (at : ViewPlace) (there : is_there m.site at ≡ true) where
  abbrev view : List ℕ
  view = view_at m.views at

  -- what lies at another network is a fault
  not_elsewhere : (e : Point) (u : ℕ) → IsHeld m.site.policy e → option_and_then (place m.site.policy view) (translated_address m.site.policy view e.net e.addr) ≡ Some u → (u ≡ e.net → ⊥) → ⊥
  not_elsewhere e u (inl w) placed other =
      let h : ℕ = w.0 in
      let of : IsOfHost m.site.policy e h = w.1 in
      let shadowed : IsShadowed m.site.policy view (host_of m.site.policy h).net (host_of m.site.policy h).range u = record {
        address = e.addr;
        inside = of.inside;
        placed = ap (λ n. option_and_then (place m.site.policy view) (translated_address m.site.policy view n e.addr)) of.net ∙ placed;
        elsewhere = λ same. other (same ∙ of.net);
      } in
      none (HostShadowed h u at) (record { lower = omega arith; upper = omega arith }) (of.there, there, shadowed)
  not_elsewhere e u (inr w) placed other =
      let i : ℕ = w.0 in
      let of : IsOfIface m.site.policy e i = w.1 in
      let shadowed : IsShadowed m.site.policy view (net_at m.site.policy i) (one_address e.addr) u = record {
        address = e.addr;
        inside = within_from (one_address e.addr) e.addr (omega arith) (omega arith);
        placed = ap (λ n. option_and_then (place m.site.policy view) (translated_address m.site.policy view n e.addr)) of.net ∙ placed;
        elsewhere = λ same. other (same ∙ of.net);
      } in
      none (IfaceShadowed i of.shared u at) (record { lower = omega arith; upper = omega arith }) (of.there, there, record { address = e.addr; its = of.its; shadowed = shadowed })

  pub lies_at_its_own : IsSound m.site.policy → IsShaped m.site.policy → (e : Point) → IsHeld m.site.policy e →
      is_some (prefix_in m.site.policy view e.net) ≡ true → is_unambiguous_point m.site.policy view e ≡ true
  lies_at_its_own sound shaped e held shown =
      let p = m.site.policy in
      let own = own_address_held p sound shaped e held in
      let seen = some_prefix (prefix_in p view e.net) shown in
      let here = held_there p view e.net e.addr (shaped.nets e.net own.below) own.holds seen.0 seen.1 in
      let found = some_place p view e.net here.addr own.below here.holds in
      let u : ℕ = found.0 in
      let placed : option_and_then (place p view) (translated_address p view e.net e.addr) ≡ Some u = ap (option_and_then (place p view)) here.translated ∙ found.1 in
      let same : (u == e.net) ≡ true =
      ⊎_elim (λ t. t) (λ f. absurd (not_elsewhere e u held placed (λ is. false≢true (sym f ∙ eq-eqb u e.net is)))) (cases_Bool (u == e.net)) in
      ap (λ o. option_map_or (λ a. is_placed_at p view a e.net) o false) here.translated ∙ (ap (λ o. is_number o e.net) found.1 ∙ same)
