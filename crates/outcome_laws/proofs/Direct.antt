-- Where a walk leaves a static router straight into the destination's network, the router's table sends an unambiguous packet there.
use Rattle.std.proofs.Common.{◌≡◌, ℕ, zero, suc, ◌<◌, ◌≤◌, inl, true, false, not, cond, List, [], ◌∷◌, ◌++◌, length, map, refl, sym, ap, subst, ◌∙◌, ⊎_elim, nat_lt, arith}
use Rattle.std.specs.Prelude.{◌==◌, Option, Some, None, filter, option_map, option_and_then, unwrap_or, slice_index_or, count_by, is_some, take}
use Rattle.std.specs.Option.{option_map_or}
use Rattle.std.specs.List.{list_any}
use Rattle.std.proofs.lemmas.Bool.{and_parts, and_from, eq-eqb, lt-ltb, false≢true, false_from_ne_true}
use Rattle.spoc_base.specs.Address.{Cidr, prefix_holds}
use Rattle.policy_model.specs.Lists.{has}
use Rattle.policy_model.specs.Policy.{Policy, net_of, net_at, router_at, is_managed, managed_routers, all_ifaces}
use Rattle.policy_model.specs.Paths.{Crossing, places_on, routers_on}
use Rattle.policy_model.specs.Zones.{Site, IsSite, zone_of, zone_at}
use Rattle.policy_model.specs.Walks.{is_crossing}
use Rattle.policy_model.specs.Tags.{Views, AreViews, IsActive, binds, zone_view, router_view, ifaces_of}
use Rattle.policy_model.specs.Places.{prefix_in, holds_in, length_in, longest_by}
use Rattle.policy_model.specs.Packets.{is_unambiguous_point, is_unambiguous_in, views_on}
use Rattle.policy_model.specs.Routes.{Hop, Entry, Route, NextHop, hops_beyond, connected_entries, lookup}
use Rattle.policy_model.specs.Passing.{no_config, config_of}
use Rattle.policy_model.specs.Faults.{has_tag, are_one_prefix}
use Rattle.policy_model.specs.FirstFault.{SamePrefix, AtRouter}
use Rattle.policy_model.specs.Filters.{Line}
use Rattle.policy_model.specs.Headline.{Meaning, IsMeaning}
use Rattle.policy_model.proofs.AllWalks.{IsIn, in_front, in_back, in_map, from_map, in_filter, in_numbers, parts_of, managed_is_there}
use Rattle.list_laws.proofs.Members.{in_either, from_filter, some_in, some_of, each_in}
use Rattle.list_laws.proofs.LongestFirst.{is_longest, is_empty}
use Rattle.policy_laws.specs.Routed.{IsWired}
use Rattle.policy_laws.specs.Shaped.{IsShaped, HasDistinctPrefixes}
use Rattle.policy_laws.proofs.Order.{none_found}
use Rattle.policy_laws.proofs.Placed.{IsPlacedAt, placed_at, held_by, round_place}
use Rattle.policy_laws.proofs.InnerViews.{zone_below, its_inner_tags, inner_tag, of_router, passed_on, keeps_from}
use Rattle.policy_laws.proofs.Devices.{interfaces_below, seen_point}
use Rattle.policy_laws.proofs.Returns.{same_router, managed_there}
use Rattle.topology.specs.First.{HasNone}
use Rattle.policy_outcome.specs.Files.{config_for}
use Rattle.policy_outcome.specs.Outcome.{lists_for}
use Rattle.policy_outcome.specs.Exact.{TablesSendDirect, configs_for}

-- ---- look-ups

-- where an entry that holds the address is this long, and each such entry has the hop, the look-up gives it
sends_there : (entries : List Entry) (a l : ℕ) (hop : Hop) (e : Entry) → IsIn e entries → prefix_holds e.prefix a ≡ true → l ≤ e.prefix.len →
    ((f : Entry) → IsIn f entries → prefix_holds f.prefix a ≡ true → l ≤ f.prefix.len → f.hop ≡ hop) →
    option_map (λ (e : Entry). e.hop) (longest_by (λ (e : Entry). e.prefix.len) (filter (λ (e : Entry). prefix_holds e.prefix a) entries)) ≡ Some hop
sends_there entries a l hop e there holds long each = go (longest_by len held) refl
  where
    len : Entry → ℕ
    len e = e.prefix.len

    held : List Entry
    held = filter (λ (e : Entry). prefix_holds e.prefix a) entries

    inside : IsIn e held
    inside = in_filter (λ (e : Entry). prefix_holds e.prefix a) e entries there holds

    go : (o : Option Entry) → longest_by len held ≡ o → option_map (λ (e : Entry). e.hop) o ≡ Some hop
    go None is = absurd (is_empty len held is e inside)
    go (Some b) is =
        let w = is_longest len held b is in
        let f = from_filter (λ (e : Entry). prefix_holds e.prefix a) b entries w.inside in
        let le = w.longest e inside in
        ap (λ h. Some h) (each b f.0 f.1 (omega (arith, long, le)))

-- the configs have no routes
no_routes : (p : Policy) (lists : List (List Line)) (routers : List ℕ) (k : ℕ) → (slice_index_or (map (config_for p lists) routers) k no_config).routes ≡ []
no_routes p lists [] k = refl
no_routes p lists (r ∷ routers) zero = refl
no_routes p lists (r ∷ routers) (suc k) = no_routes p lists routers k

-- ---- what a router sees of the networks at which it stands

-- a network none of whose tags is in the view is seen by its own prefix
own_seen : (p : Policy) (view : List ℕ) (n : ℕ) → ((tag : ℕ) → has_tag p n tag ≡ true → has view tag ≡ true → ⊥) → prefix_in p view n ≡ Some (net_of p n).own
own_seen p view n none =
    let net = net_of p n in
    let test = λ (nat : ℕ × Option Cidr). has view nat.0 in
    let mute : list_any test net.nats ≡ false =
    false_from_ne_true (list_any test net.nats)
    (λ some. let f = some_in test net.nats some in
    let nat : ℕ × Option Cidr = f.0 in
    none nat.0 (some_of (λ (m : ℕ × Option Cidr). m.0 == nat.0) nat net.nats f.1 (eq-eqb nat.0 nat.0 refl)) f.2) in
    ap (λ o. unwrap_or (option_map (λ (nat : ℕ × Option Cidr). nat.1) o) (Some net.own)) (none_found test net.nats mute)

module _ (s : Site) (v : Views) (site : IsSite s) (views : AreViews s v) (wired : IsWired s.policy) (distinct : HasDistinctPrefixes s v) where
  abbrev p : Policy
  p = s.policy

  -- A tag of the router's view is in force at each side of the router, and so where the network is, in which none translates it.
  own_at_router : (r j : ℕ) → is_managed p r ≡ true → IsIn j (ifaces_of p r) → prefix_in p (router_view v r) (net_at p j) ≡ Some (net_of p (net_at p j)).own
  own_at_router r j managed there =
      let n = net_at p j in
      let hj = of_router p r j there in
      let zone = λ (i : ℕ) (h : i < length p.ifaces). zone_below s site (net_at p i) (wired.placed i h).0 in
      own_seen p (router_view v r) n
      (λ tag tagged seen.
      let w = inner_tag s v r tag (subst (λ view. has view tag ≡ true) (its_inner_tags s v views r (managed_is_there p r managed)) seen) in
      let i : ℕ = w.iface in
      let hi = of_router p r i w.there in
      let unbound = each_in (λ i. not (binds p i tag)) (ifaces_of p r) w.unbound in
      let active : IsActive s tag (zone_at s i) = (views.active (zone_at s i) tag (zone i hi.below)).0 w.seen in
      let too = passed_on s tag i j (keeps_from p r tag i j managed hi hj (unbound i w.there) (unbound j there)) active in
      let here : has (zone_view v (zone_at s j)) tag ≡ true = (views.active (zone_at s j) tag (zone j hj.below)).1 too in
      false≢true (sym (distinct.inside n tag (wired.placed j hj.below).0) ∙ and_from (has_tag p n tag) (has (zone_view v (zone_of s n)) tag) tagged here))

  -- ---- the router's table

  -- An address that the router's view places at the network of one of the router's interfaces is sent out by that one.
  module _ (shaped : IsShaped p) (r out a : ℕ) (managed : is_managed p r ≡ true) (there : IsIn out (ifaces_of p r))
      (apart : (n k : ℕ) → n < k → k < length p.nets → are_one_prefix (prefix_in p (router_view v r) n) (prefix_in p (router_view v r) k) ≡ false)
      (at : IsPlacedAt p (router_view v r) a (net_at p out)) where
    abbrev view : List ℕ
    view = router_view v r

    abbrev own_of : ℕ → Cidr
    own_of i = (net_of p (net_at p i)).own

    abbrev connected : ℕ → Entry
    connected i = record { prefix = own_of i; hop = record { out = i; gateway = None } }

    length_seen : (i : ℕ) → IsIn i (ifaces_of p r) → length_in p view (net_at p i) ≡ (own_of i).len
    length_seen i here = ap (λ o. option_map_or (λ (c : Cidr). c.len) o 0) (own_at_router r i managed here)

    holds_seen : (i : ℕ) → IsIn i (ifaces_of p r) → holds_in p view (net_at p i) a ≡ prefix_holds (own_of i) a
    holds_seen i here = ap (λ o. option_map_or (λ (c : Cidr). prefix_holds c a) o false) (own_at_router r i managed here)

    -- another interface whose network's prefix holds the address has a shorter one
    same_iface : (i : ℕ) → IsIn i (ifaces_of p r) → prefix_holds (own_of i) a ≡ true → (own_of out).len ≤ (own_of i).len → i ≡ out
    same_iface i here held long =
        let n = net_at p i in
        let u = net_at p out in
        let hi = of_router p r i here in
        let ho = of_router p r out there in
        let below = (wired.placed i hi.below).0 in
        let hold : holds_in p view n a ≡ true = holds_seen i here ∙ held in
        let round = round_place p view a u n apart at (held_by p view u a (shaped.nets u at.below) at.holds) below hold (held_by p view n a (shaped.nets n below) hold) in
        let ln = length_seen i here in
        let lu = length_seen out there in
        let one : n ≡ u = ⊎_elim (λ e. e) (λ (less : length_in p view n < length_in p view u). absurd (omega (arith, less, ln, lu, long))) round.less in
        wired.once i out hi.below ho.below (hi.its ∙ sym ho.its) one

    each_entry : (e : Entry) → IsIn e (connected_entries p r ++ []) → prefix_holds e.prefix a ≡ true → (own_of out).len ≤ e.prefix.len → e.hop ≡ (connected out).hop
    each_entry e here holds long =
        let its : IsIn e (connected_entries p r) = ⊎_elim (λ g. g) (λ none. absurd none) (in_either e (connected_entries p r) [] here) in
        let w = from_map connected e (ifaces_of p r) its in
        let held : prefix_holds (own_of w.0) a ≡ true = subst (λ (x : Entry). prefix_holds x.prefix a ≡ true) w.2 holds in
        let much : (own_of out).len ≤ (own_of w.0).len = subst (λ (x : Entry). (own_of out).len ≤ x.prefix.len) w.2 long in
        ap (λ (x : Entry). x.hop) w.2 ∙ ap (λ i. (connected i).hop) (same_iface w.0 w.1 held much)

    sent_out : lookup p r [] a ≡ Some (record { out = out; gateway = None })
    sent_out =
        sends_there (connected_entries p r ++ []) a (own_of out).len (connected out).hop (connected out)
        (in_front (connected out) (connected_entries p r) [] (in_map connected out (ifaces_of p r) there)) (sym (holds_seen out there) ∙ at.holds) (omega arith) each_entry

-- ---- a packet on its walk

abbrev direct_by : ℕ → NextHop
direct_by i = record { out = i; next = None }

module _ (m : Meaning) (its : IsMeaning m.site.policy m) (shaped : IsShaped m.site.policy) (wired : IsWired m.site.policy) (distinct : HasDistinctPrefixes m.site m.views)
    (none : HasNone m 4 6) where
  -- a router that is there sees no two networks by one prefix
  apart_inside : (r : ℕ) → r < length m.site.policy.routers → (n k : ℕ) → n < k → k < length m.site.policy.nets →
      are_one_prefix (prefix_in m.site.policy (router_view m.views r) n) (prefix_in m.site.policy (router_view m.views r) k) ≡ false
  apart_inside r there n k less below =
      let p = m.site.policy in
      let view = router_view m.views r in
      let one = are_one_prefix (prefix_in p view n) (prefix_in p view k) in
      false_from_ne_true one
      (λ same. none (SamePrefix n k (AtRouter r)) (record { lower = omega arith; upper = omega arith })
      (below, lt-ltb r (length p.routers) there, and_from (nat_lt n k) one (lt-ltb n k less) same))

  pub send_direct : TablesSendDirect m (configs_for m)
  send_direct x before c rest way fixed stands =
      let s : Site = m.site in
      let p : Policy = s.policy in
      let v : Views = m.views in
      let net = x.dst.net in
      let from = zone_of s x.src.net in
      let path = before ++ c ∷ rest in
      let r = router_at p c.enter in
      let view = router_view v r in
      let w = parts_of s from (zone_of s net) path way.walk in
      let c_there : IsIn c path = in_back c before (c ∷ rest) (inl refl) in
      let crossing = each_in (is_crossing s) path w.crossings c c_there in
      let below = interfaces_below s c crossing in
      let managed = managed_there s c crossing in
      let clear = each_in (is_unambiguous_in p x) (views_on s v from path) way.unambiguous view
      (in_back view (map (zone_view v) (places_on (zone_at s) from path)) (map (router_view v) (routers_on p path))
      (in_map (router_view v) r (routers_on p path) (in_map (λ (d : Crossing). router_at p d.enter) c path c_there))) in
      let seen = seen_point p view x.dst (and_parts (is_unambiguous_point p view x.src) (is_unambiguous_point p view x.dst) clear).1 in
      let at : IsPlacedAt p view seen.addr (net_at p c.leave) = subst (λ u. IsPlacedAt p view seen.addr u) (sym stands) (placed_at p view seen.addr net seen.placed) in
      let there : IsIn c.leave (ifaces_of p r) =
      in_filter (λ i. router_at p i == r) c.leave (all_ifaces p) (in_numbers (length p.ifaces) c.leave below.1) (eq-eqb (router_at p c.leave) r (sym (same_router s c crossing))) in (
        ap (λ b. cond b (direct_by c.leave ∷ []) (hops_beyond p net c.leave rest)) (eq-eqb (net_at p c.leave) net stands),
        ap (option_and_then (lookup p r (config_of p (configs_for m) r).routes)) seen.translated
            ∙ (ap (λ (routes : List Route). lookup p r routes seen.addr) (no_routes p (lists_for m) (managed_routers p) (count_by (λ x. is_some x.device) (take r p.routers)))
            ∙ sent_out s v its.zones its.views wired distinct shaped r c.leave seen.addr managed there (apart_inside r (managed_is_there p r managed)) at),
      )
