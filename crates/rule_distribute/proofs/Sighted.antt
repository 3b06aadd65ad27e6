-- What a policy in memory shows of its networks: a prefix in a view is as long as the network's own.
use Rattle.std.proofs.Common.{◌≡◌, ℕ, ◌<◌, ◌≤◌, Bool, true, false, cond, List, [], ◌∷◌, length, map, refl, sym, ap, subst, ◌∙◌, arith, slice_index_or}
use Rattle.std.specs.Prelude.{Option, None, Some, option_map, unwrap_or, find, is_some, IsTrue}
use Rattle.std.specs.List.{list_all}
use Rattle.std.specs.Option.{option_map_or}
use Rattle.std.proofs.lemmas.Bool.{and_parts, eqb-true, false≢true}
use Rattle.std.proofs.lemmas.List.{get_or-map, length-map}
use Rattle.spoc_base.specs.Address.{Cidr}
use Rattle.spoc_base.specs.Shown.{cidr_of}
use Rattle.policy_model.specs.Lists.{has}
use Rattle.policy_model.specs.Policy.{Net, no_net, net_of}
use Rattle.policy_model.specs.Places.{prefix_in, length_in}
use Rattle.topology.specs.Seen.{net_seen}
use Rattle.topology.specs.Sound.{keeps_length}
use Rattle.topology.specs.View.{policy_of, sources_of}
use Rattle.topology.specs.declared.items.Network.{Network}
use Rattle.topology.specs.declared.topo.Topo.{Topo}
use Rattle.rule_distribute.proofs.Placing.{KeepsLength}

-- each network that is there is one in memory
record IsSeen (topo : Topo) (n : ℕ) : Type 0 where
  pub net : Network
  pub is : net_of (policy_of topo) n ≡ net_seen (sources_of topo) net

first_of : {A : Type 0} (xs : List A) (n : ℕ) → n < length xs → A
first_of [] n h = absurd (let z : ⊥ = omega (arith, h) in z)
first_of (x ∷ xs) n h = x

seen : (topo : Topo) (n : ℕ) → n < length (policy_of topo).nets → IsSeen topo n
seen topo n h =
    let nets = topo.parts.nets.now in
    let m = length-map nets (net_seen (sources_of topo)) in
    let below : n < length nets = omega (arith, h, m) in
    let d = first_of nets n below in
    record { net = slice_index_or nets n d; is = get_or-map (net_seen (sources_of topo)) nets n d no_net below }

-- what a translation shows, and the own prefix where there is none
abbrev shown_of : Cidr → Option (ℕ × Option Cidr) → Option Cidr
shown_of own o = unwrap_or (option_map (λ nat. nat.1) o) (Some own)

-- a translation that is found keeps the length, if it shows a prefix
kept : (test : ℕ × Option Cidr → Bool) (own : Cidr) (nats : List (ℕ × Option Cidr)) → list_all (λ nat. keeps_length own nat.1) nats ≡ true →
    is_some (shown_of own (find test nats)) ≡ true → option_map_or (λ (q : Cidr). q.len) (shown_of own (find test nats)) 0 ≡ own.len
kept test own [] all h = refl
kept test own (nat ∷ nats) all h =
    let a = and_parts (keeps_length own nat.1) (list_all (λ x. keeps_length own x.1) nats) all in
    go (test nat) (kept test own nats a.1) h
  where
    one : (q : Option Cidr) → keeps_length own q ≡ true → is_some q ≡ true → option_map_or (λ (q : Cidr). q.len) q 0 ≡ own.len
    one None k i = absurd (false≢true i)
    one (Some q) k i = eqb-true q.len own.len k

    go : (b : Bool) → (is_some (shown_of own (find test nats)) ≡ true → option_map_or (λ (q : Cidr). q.len) (shown_of own (find test nats)) 0 ≡ own.len) →
        is_some (shown_of own (cond b (Some nat) (find test nats))) ≡ true → option_map_or (λ (q : Cidr). q.len) (shown_of own (cond b (Some nat) (find test nats))) 0 ≡ own.len
    go true later i = one nat.1 (and_parts (keeps_length own nat.1) (list_all (λ x. keeps_length own x.1) nats) all).0 i
    go false later i = later i

-- a network's prefix in a view is as long as its own
pub keeps : (topo : Topo) (view : List ℕ) (n : ℕ) → n < length (policy_of topo).nets → KeepsLength (policy_of topo) view n
keeps topo view n h =
    let p = policy_of topo in
    let w = seen topo n h in
    let own : (net_of p n).own ≡ cidr_of w.net.own = ap (λ (net : Net). net.own) w.is in
    record {
      length_is = kept (λ nat. has view nat.0) (net_of p n).own (net_of p n).nats (topo.kept.sound.well_formed.nats n h);
      short = subst (λ (k : ℕ). k ≤ 32) (sym (ap (λ (q : Cidr). q.len) own)) w.net.own.short;
    }
