-- Own addresses of a network, in a view.
use Rattle.std.proofs.Common.{◌≡◌, ℕ, ◌+◌, ◌-◌, ◌<◌, true, false, List, length, refl, ap, ◌∙◌, arith}
use Rattle.std.specs.Prelude.{◌==◌, Option, Some, None, is_some, filter, option_map, unwrap_or}
use Rattle.std.specs.Option.{option_map_or}
use Rattle.std.specs.List.{list_any}
use Rattle.std.proofs.lemmas.Bool.{false≢true, false_from_ne_true, eq-eqb}
use Rattle.spoc_base.specs.Address.{Cidr, size_of, prefix_holds}
use Rattle.policy_model.specs.Lists.{has}
use Rattle.policy_model.specs.Policy.{Policy, net_of, all_nets}
use Rattle.policy_model.specs.Places.{prefix_in, moved, translated_address, holds_in, length_in, place}
use Rattle.policy_model.specs.Faults.{has_tag}
use Rattle.policy_model.proofs.AllWalks.{in_filter, in_numbers}
use Rattle.list_laws.proofs.LongestFirst.{is_empty}
use Rattle.list_laws.proofs.Members.{some_in, some_of}
use Rattle.policy_laws.specs.Secured.{IsNet}
use Rattle.policy_laws.proofs.Cover.{held_within, holds_from}
use Rattle.policy_laws.proofs.Order.{none_found}
use Rattle.policy_laws.proofs.Placed.{seen_as}

-- ---- each network is seen

pub some_prefix : (o : Option Cidr) → is_some o ≡ true → (q : Cidr) × (o ≡ Some q)
some_prefix None e = absurd (false≢true e)
some_prefix (Some q) e = (q, refl)

-- ---- the network holds its addresses

pub record IsHeldThere (p : Policy) (view : List ℕ) (n a : ℕ) : Type 0 where
  pub addr : ℕ
  pub translated : translated_address p view n a ≡ Some addr
  pub holds : holds_in p view n addr ≡ true

moved_inside : (own q : Cidr) (a : ℕ) → q.len ≡ own.len → prefix_holds own a ≡ true → prefix_holds q (moved own q a) ≡ true
moved_inside own q a same h =
    let w = held_within own a h in
    let low = w.0 in
    let high = w.1 in
    let size : size_of q ≡ size_of own = ap (λ len. size_of (record { net = 0; len = len })) same in
    holds_from q (moved own q a) (omega arith) (omega (arith, low, high, size))

pub held_there : (p : Policy) (view : List ℕ) (n a : ℕ) → IsNet (net_of p n) → prefix_holds (net_of p n).own a ≡ true → (q : Cidr) → prefix_in p view n ≡ Some q → IsHeldThere p view n a
held_there p view n a net h q e =
    let own = (net_of p n).own in
    record {
      addr = moved own q a;
      translated = ap (option_map (λ seen. moved own seen a)) e;
      holds = ap (λ o. option_map_or (λ seen. prefix_holds seen (moved own q a)) o false) e ∙ moved_inside own q a (seen_as p view n q net e).length h;
    }

-- so some network has the place
pub some_place : (p : Policy) (view : List ℕ) (n b : ℕ) → n < length p.nets → holds_in p view n b ≡ true → (u : ℕ) × (place p view b ≡ Some u)
some_place p view n b below h = go (place p view b) refl
  where
    go : (o : Option ℕ) → place p view b ≡ o → (u : ℕ) × (place p view b ≡ Some u)
    go None e = absurd (is_empty (length_in p view) (filter (λ k. holds_in p view k b) (all_nets p)) e n
        (in_filter (λ k. holds_in p view k b) n (all_nets p) (in_numbers (length p.nets) n below) h))
    go (Some u) e = (u, e)

-- ---- a network that isn't translated is seen by its own prefix

pub own_seen : (p : Policy) (view : List ℕ) (n : ℕ) → ((tag : ℕ) → has_tag p n tag ≡ true → has view tag ≡ true → ⊥) → prefix_in p view n ≡ Some (net_of p n).own
own_seen p view n none =
    let net = net_of p n in
    let test = λ (nat : ℕ × Option Cidr). has view nat.0 in
    let mute : list_any test net.nats ≡ false =
    false_from_ne_true (list_any test net.nats)
    (λ some. let f = some_in test net.nats some in
    let nat : ℕ × Option Cidr = f.0 in
    none nat.0 (some_of (λ (m : ℕ × Option Cidr). m.0 == nat.0) nat net.nats f.1 (eq-eqb nat.0 nat.0 refl)) f.2) in
    ap (λ o. unwrap_or (option_map (λ (nat : ℕ × Option Cidr). nat.1) o) (Some net.own)) (none_found test net.nats mute)

-- and its addresses are as they are
pub same_address : (p : Policy) (view : List ℕ) (n a : ℕ) → prefix_holds (net_of p n).own a ≡ true → prefix_in p view n ≡ Some (net_of p n).own → translated_address p view n a ≡ Some a
same_address p view n a h e =
    let own = (net_of p n).own in
    let low = (held_within own a h).0 in
    let same : own.net + (a - own.net) ≡ a = omega (arith, low) in
    ap (option_map (λ seen. moved own seen a)) e ∙ ap Some same
