-- Where no interface binds a tag, each packet is unambiguous.
use Rattle.std.proofs.Common.{◌≡◌, ℕ, ◌+◌, ◌-◌, ◌<◌, ◌≤◌, inl, inr, Bool, true, false, List, [], ◌∷◌, ◌++◌, length, map, refl, sym, ap, subst, ◌∙◌, ⊎_elim, arith}
use Rattle.std.specs.Prelude.{Option, Some, find, option_map, unwrap_or}
use Rattle.std.specs.Option.{option_map_or}
use Rattle.std.specs.List.{list_all}
use Rattle.std.proofs.lemmas.Bool.{false≢true, and_parts, and_from, cases_lt}
use Rattle.std.proofs.lemmas.List.{get_or_past}
use Rattle.std.proofs.lemmas.List.FromFn.{length-map-range_with_len}
use Rattle.spoc_base.specs.Address.{Cidr, prefix_holds}
use Rattle.policy_model.specs.Lists.{has}
use Rattle.policy_model.specs.Policy.{Policy, net_of}
use Rattle.policy_model.specs.Paths.{Crossing, places_on, routers_on}
use Rattle.policy_model.specs.Zones.{Site, zone_of, zone_at}
use Rattle.policy_model.specs.Tags.{Views, AreViews, zone_view, router_view, inner_tags}
use Rattle.policy_model.specs.Places.{prefix_in, moved, translated_address, place, is_placed_at}
use Rattle.policy_model.specs.Permits.{Point, Packet}
use Rattle.policy_model.specs.Packets.{is_unambiguous_point, is_unambiguous_in, is_own_point, is_packet, views_on, is_unambiguous_on, walks_of, is_unambiguous}
use Rattle.policy_model.specs.Headline.{Meaning, IsMeaning}
use Rattle.policy_model.proofs.AllWalks.{IsIn, from_map}
use Rattle.list_laws.proofs.Members.{in_either}
use Rattle.policy_laws.proofs.Cover.{held_within}
use Rattle.policy_laws.proofs.Placed.{placed_at}
use Rattle.policy_laws.proofs.Devices.{number_is}
use Rattle.policy_laws.proofs.InnerViews.{its_inner_tags, inner_tag}
use Rattle.shape_laws.specs.Unlike.{IsUnbound}
use Rattle.shape_laws.proofs.Unalike.{none_has, view_empty}

all_pass : {A : Type 0} (test : A → Bool) (xs : List A) → ((x : A) → IsIn x xs → test x ≡ true) → list_all test xs ≡ true
all_pass test [] each = refl
all_pass test (x ∷ xs) each = and_from (test x) (list_all test xs) (each x (inl refl)) (all_pass test xs (λ y h. each y (inr h)))

-- ---- where no tag is in force

own_in_none : (p : Policy) (n : ℕ) → prefix_in p [] n ≡ Some (net_of p n).own
own_in_none p n = go (net_of p n).nats
  where
    go : (nats : List (ℕ × Option Cidr)) → unwrap_or (option_map (λ nat. nat.1) (find (λ nat. has [] nat.0) nats)) (Some (net_of p n).own) ≡ Some (net_of p n).own
    go [] = refl
    go (nat ∷ nats) = go nats

point_in_none : (p : Policy) (e : Point) → is_placed_at p [] e.addr e.net ≡ true → is_unambiguous_point p [] e ≡ true
point_in_none p e h =
    let own : Cidr = (net_of p e.net).own in
    let at = placed_at p [] e.addr e.net (number_is (place p [] e.addr) e.net h) in
    let holds : prefix_holds own e.addr ≡ true = sym (ap (λ o. option_map_or (λ (q : Cidr). prefix_holds q e.addr) o false) (own_in_none p e.net)) ∙ at.holds in
    let low = (held_within own e.addr holds).0 in
    let same : own.net + (e.addr - own.net) ≡ e.addr = omega (arith, low) in
    let seen : translated_address p [] e.net e.addr ≡ Some e.addr = ap (option_map (λ (q : Cidr). moved own q e.addr)) (own_in_none p e.net) ∙ ap Some same in
    ap (λ o. option_map_or (λ a. is_placed_at p [] a e.net) o false) seen ∙ h

module _ (s : Site) (v : Views) (views : AreViews s v) (unbound : IsUnbound s.policy) where
  router_empty : (r : ℕ) → router_view v r ≡ []
  router_empty r =
      ⊎_elim (λ (below : r < length s.policy.routers). its_inner_tags s v views r below ∙ none_has (inner_tags s v r)
      (λ tag h. let w = inner_tag s v r tag h in false≢true (sym (ap (λ (tags : List ℕ). has tags tag) (view_empty s v views unbound (zone_at s w.iface))) ∙ w.seen)))
      (λ (past : length s.policy.routers ≤ r). get_or_past v.routers r [] (few r past)) (cases_lt r (length s.policy.routers))
    where
      few : (r : ℕ) → length s.policy.routers ≤ r → length v.routers ≤ r
      few r past = let e = ap length views.inner ∙ length-map-range_with_len (inner_tags s v) 0 (length s.policy.routers) in omega (arith, past, e)

  module _ (x : Packet) (one : is_packet s v x ≡ true) where
    own : (e : Point) → is_own_point s v e ≡ true → is_placed_at s.policy [] e.addr e.net ≡ true
    own e h = subst (λ (view : List ℕ). is_placed_at s.policy view e.addr e.net ≡ true) (view_empty s v views unbound (zone_of s e.net)) h

    in_none : is_unambiguous_in s.policy x [] ≡ true
    in_none =
        let w = and_parts (is_own_point s v x.src) (is_own_point s v x.dst) one in
        and_from (is_unambiguous_point s.policy [] x.src) (is_unambiguous_point s.policy [] x.dst) (point_in_none s.policy x.src (own x.src w.0)) (point_in_none s.policy x.dst (own x.dst w.1))

    in_view : (view : List ℕ) → view ≡ [] → is_unambiguous_in s.policy x view ≡ true
    in_view view e = subst (λ (w : List ℕ). is_unambiguous_in s.policy x w ≡ true) (sym e) in_none

    on_path : (path : List Crossing) → is_unambiguous_on s v x path ≡ true
    on_path path =
        let zones = map (zone_view v) (places_on (zone_at s) (zone_of s x.src.net) path) in
        let routers = map (router_view v) (routers_on s.policy path) in
        all_pass (is_unambiguous_in s.policy x) (views_on s v (zone_of s x.src.net) path)
        (λ view h. ⊎_elim
        (λ g. let w = from_map (zone_view v) view (places_on (zone_at s) (zone_of s x.src.net) path) g in in_view view (w.2 ∙ view_empty s v views unbound w.0))
        (λ g. let w = from_map (router_view v) view (routers_on s.policy path) g in in_view view (w.2 ∙ router_empty w.0))
        (in_either view zones routers h))

    unambiguous : is_unambiguous s v x ≡ true
    unambiguous = all_pass (is_unambiguous_on s v x) (walks_of s x) (λ path h. on_path path)

pub unambiguous_where_unbound : (p : Policy) (m : Meaning) → IsMeaning p m → IsUnbound p → (x : Packet) → is_packet m.site m.views x ≡ true → is_unambiguous m.site m.views x ≡ true
unambiguous_where_unbound p m its unbound x one = unambiguous m.site m.views its.views (subst IsUnbound (sym its.policy) unbound) x one
