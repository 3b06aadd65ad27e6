-- Packets between addresses of hosts and interfaces, on their walks.
use Rattle.std.proofs.Common.{◌≡◌, ℕ, ◌<◌, inl, inr, Bool, true, List, [], ◌∷◌, length, map, refl, ap, sym, subst, ◌∙◌, ⊎_elim, arith}
use Rattle.std.specs.Prelude.{is_some}
use Rattle.std.specs.List.{list_all}
use Rattle.std.proofs.lemmas.Bool.{and_parts, and_from, lt-ltb, eq-eqb}
use Rattle.policy_model.specs.Lists.{has}
use Rattle.policy_model.specs.Policy.{net_at, router_at}
use Rattle.policy_model.specs.Paths.{Crossing, places_on, routers_on}
use Rattle.policy_model.specs.Zones.{IsSite, zone_of, zone_at, zone_count}
use Rattle.policy_model.specs.Tags.{zone_view, router_view}
use Rattle.policy_model.specs.Walks.{is_crossing, is_allowed_walk, all_paths}
use Rattle.policy_model.specs.Places.{place, is_number, prefix_in}
use Rattle.policy_model.specs.Packets.{is_unambiguous_point, is_unambiguous_in, is_unambiguous_on, is_unambiguous, is_own_point, is_packet, views_on, walks_of}
use Rattle.policy_model.specs.Permits.{Point, Packet}
use Rattle.policy_model.specs.Faults.{has_tag}
use Rattle.policy_model.specs.FirstFault.{NatInside, AtZone, AtRouter}
use Rattle.policy_model.specs.Headline.{Meaning}
use Rattle.policy_model.proofs.AllWalks.{IsIn, from_map, parts_of}
use Rattle.list_laws.proofs.Members.{each_in, from_filter, in_either}
use Rattle.policy_laws.specs.Shaped.{IsShaped}
use Rattle.policy_laws.proofs.Devices.{interfaces_below, seen_point}
use Rattle.policy_laws.proofs.InnerViews.{zone_below}
use Rattle.topology.specs.First.{HasNone}
use Rattle.topology.specs.Sound.{IsSound}
use Rattle.address_laws.specs.Held.{IsHeld, sees_ends, is_seen_on_walks}
use Rattle.address_laws.proofs.Own.{own_seen, same_address}
use Rattle.address_laws.proofs.Lying.{own_address_held, lies_at_its_own}

all_pass : {A : Type 0} (test : A → Bool) (xs : List A) → ((x : A) → IsIn x xs → test x ≡ true) → list_all test xs ≡ true
all_pass test [] each = refl
all_pass test (x ∷ xs) each = and_from (test x) (list_all test xs) (each x (inl refl)) (all_pass test xs (λ y h. each y (inr h)))

module _ (m : Meaning) (site : IsSite m.site) (sound : IsSound m.site.policy) (shaped : IsShaped m.site.policy)
    (tags : HasNone m 1 3) (views : HasNone m 4 6) where
  unshadowed : HasNone m 6 6
  unshadowed f within = views f (record { lower = omega (arith, within.lower); upper = within.upper })

  at_zone : (z : ℕ) → z < zone_count m.site → (e : Point) → IsHeld m.site.policy e → is_some (prefix_in m.site.policy (zone_view m.views z) e.net) ≡ true →
      is_unambiguous_point m.site.policy (zone_view m.views z) e ≡ true
  at_zone z below e held shown = lies_at_its_own m unshadowed (AtZone z) (lt-ltb z (zone_count m.site) below) sound shaped e held shown

  at_router : (r : ℕ) → r < length m.site.policy.routers → (e : Point) → IsHeld m.site.policy e → is_some (prefix_in m.site.policy (router_view m.views r) e.net) ≡ true →
      is_unambiguous_point m.site.policy (router_view m.views r) e ≡ true
  at_router r below e held shown = lies_at_its_own m unshadowed (AtRouter r) (lt-ltb r (length m.site.policy.routers) below) sound shaped e held shown

  -- ---- packets

  own_point : (e : Point) → IsHeld m.site.policy e → is_own_point m.site m.views e ≡ true
  own_point e held =
      let p = m.site.policy in
      let own = own_address_held p sound shaped e held in
      let z = zone_of m.site e.net in
      let view = zone_view m.views z in
      let bare = own_seen p view e.net
      (λ tag tagged seen. tags (NatInside e.net tag) (record { lower = omega arith; upper = omega arith }) (own.below, and_from (has_tag p e.net tag) (has view tag) tagged seen)) in
      let here = seen_point p view e (at_zone z (zone_below m.site site e.net own.below) e held (ap is_some bare)) in
      let same : here.addr ≡ e.addr = cc (sym here.translated ∙ same_address p view e.net e.addr own.holds bare) in
      ap (λ o. is_number o e.net) (ap (place p view) (sym same) ∙ here.placed) ∙ eq-eqb e.net e.net refl

  pub is_one : (x : Packet) → IsHeld m.site.policy x.src → IsHeld m.site.policy x.dst → is_packet m.site m.views x ≡ true
  is_one x src dst = and_from (is_own_point m.site m.views x.src) (is_own_point m.site m.views x.dst) (own_point x.src src) (own_point x.dst dst)

  -- ---- on walks

  module _ (x : Packet) (src : IsHeld m.site.policy x.src) (dst : IsHeld m.site.policy x.dst) where
    both_seen : (view : List ℕ) → sees_ends m.site.policy x view ≡ true → (is_some (prefix_in m.site.policy view x.src.net) ≡ true) × (is_some (prefix_in m.site.policy view x.dst.net) ≡ true)
    both_seen view h = and_parts (is_some (prefix_in m.site.policy view x.src.net)) (is_some (prefix_in m.site.policy view x.dst.net)) h

    in_zone : (z : ℕ) → z < zone_count m.site → sees_ends m.site.policy x (zone_view m.views z) ≡ true → is_unambiguous_in m.site.policy x (zone_view m.views z) ≡ true
    in_zone z below shown =
        and_from (is_unambiguous_point m.site.policy (zone_view m.views z) x.src) (is_unambiguous_point m.site.policy (zone_view m.views z) x.dst)
        (at_zone z below x.src src (both_seen (zone_view m.views z) shown).0) (at_zone z below x.dst dst (both_seen (zone_view m.views z) shown).1)

    in_router : (r : ℕ) → r < length m.site.policy.routers → sees_ends m.site.policy x (router_view m.views r) ≡ true → is_unambiguous_in m.site.policy x (router_view m.views r) ≡ true
    in_router r below shown =
        and_from (is_unambiguous_point m.site.policy (router_view m.views r) x.src) (is_unambiguous_point m.site.policy (router_view m.views r) x.dst)
        (at_router r below x.src src (both_seen (router_view m.views r) shown).0) (at_router r below x.dst dst (both_seen (router_view m.views r) shown).1)

    zone_there : (i : ℕ) → i < length m.site.policy.ifaces → zone_at m.site i < zone_count m.site
    zone_there i below = zone_below m.site site (net_at m.site.policy i) (sound.numbered.placed i below).0

    -- the zones and routers of crossings are there
    places_there : (from : ℕ) (path : List Crossing) → from < zone_count m.site → ((c : Crossing) → IsIn c path → is_crossing m.site c ≡ true) → (z : ℕ) → IsIn z (places_on (zone_at m.site) from path) → z < zone_count m.site
    places_there from [] below each z (inl e) = subst (λ k. k < zone_count m.site) (sym e) below
    places_there from [] below each z (inr h) = absurd h
    places_there from (c ∷ path) below each z (inl e) = subst (λ k. k < zone_count m.site) (sym e) below
    places_there from (c ∷ path) below each z (inr h) =
        places_there (zone_at m.site c.leave) path (zone_there c.leave (interfaces_below m.site c (each c (inl refl))).1) (λ d g. each d (inr g)) z h

    router_there : (path : List Crossing) → ((c : Crossing) → IsIn c path → is_crossing m.site c ≡ true) → (r : ℕ) → IsIn r (routers_on m.site.policy path) → r < length m.site.policy.routers
    router_there path each r h =
        let w = from_map (λ (c : Crossing). router_at m.site.policy c.enter) r path h in
        let c : Crossing = w.0 in
        subst (λ k. k < length m.site.policy.routers) (sym w.2) (sound.numbered.placed c.enter (interfaces_below m.site c (each c w.1)).0).1

    on_walk : (path : List Crossing) → is_allowed_walk m.site (zone_of m.site x.src.net) (zone_of m.site x.dst.net) path ≡ true →
        list_all (sees_ends m.site.policy x) (views_on m.site m.views (zone_of m.site x.src.net) path) ≡ true → is_unambiguous_on m.site m.views x path ≡ true
    on_walk path allowed shown =
        let parts = parts_of m.site (zone_of m.site x.src.net) (zone_of m.site x.dst.net) path allowed in
        let crossing = λ (c : Crossing) (h : IsIn c path). each_in (is_crossing m.site) path parts.crossings c h in
        let from = zone_below m.site site x.src.net (own_address_held m.site.policy sound shaped x.src src).below in
        all_pass (is_unambiguous_in m.site.policy x) (views_on m.site m.views (zone_of m.site x.src.net) path)
        (λ view h. let here = each_in (sees_ends m.site.policy x) (views_on m.site m.views (zone_of m.site x.src.net) path) shown view h in
        ⊎_elim
        (λ g. let w = from_map (zone_view m.views) view (places_on (zone_at m.site) (zone_of m.site x.src.net) path) g in
        subst (λ v. is_unambiguous_in m.site.policy x v ≡ true) (sym w.2) (in_zone w.0 (places_there (zone_of m.site x.src.net) path from crossing w.0 w.1) (subst (λ v. sees_ends m.site.policy x v ≡ true) w.2 here)))
        (λ g. let w = from_map (router_view m.views) view (routers_on m.site.policy path) g in
        subst (λ v. is_unambiguous_in m.site.policy x v ≡ true) (sym w.2) (in_router w.0 (router_there path crossing w.0 w.1) (subst (λ v. sees_ends m.site.policy x v ≡ true) w.2 here)))
        (in_either view (map (zone_view m.views) (places_on (zone_at m.site) (zone_of m.site x.src.net) path)) (map (router_view m.views) (routers_on m.site.policy path)) h))

    pub on_all_walks : is_seen_on_walks m.site m.views x ≡ true → is_unambiguous m.site m.views x ≡ true
    on_all_walks shown =
        let allowed = is_allowed_walk m.site (zone_of m.site x.src.net) (zone_of m.site x.dst.net) in
        all_pass (is_unambiguous_on m.site m.views x) (walks_of m.site x) (λ path h. on_walk path (from_filter allowed path (all_paths m.site) h).1
        (each_in (λ path. list_all (sees_ends m.site.policy x) (views_on m.site m.views (zone_of m.site x.src.net) path)) (walks_of m.site x) shown path h))
