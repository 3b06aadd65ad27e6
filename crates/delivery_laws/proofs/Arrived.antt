-- A packet that is to pass arrives, crossing by crossing along a walk.
use Rattle.std.proofs.Common.{◌≡◌, ℕ, zero, suc, ◌+◌, ◌<◌, ◌≤◌, inl, Bool, true, false, not, List, [], ◌∷◌, ◌++◌, length, refl, ap, subst, ◌∙◌, sym, ⊎_elim, arith}
use Rattle.std.specs.Prelude.{◌==◌, ◌||◌, Some, None, IsTrue}
use Rattle.std.specs.List.{list_all}
use Rattle.std.proofs.Math.ListN.{length-append}
use Rattle.std.proofs.lemmas.Bool.{and_parts, cases_Bool, false≢true, not-true, ne_eqb, eq-eqb}
use Rattle.policy_model.specs.Policy.{Policy, managed_routers, all_routers, router_at, is_managed}
use Rattle.policy_model.specs.Paths.{Crossing, crosses_managed}
use Rattle.policy_model.specs.Zones.{Site, zone_of, zone_at}
use Rattle.policy_model.specs.Walks.{is_crossing}
use Rattle.policy_model.specs.Permits.{Packet}
use Rattle.policy_model.specs.Packets.{walks_of}
use Rattle.policy_model.specs.Routes.{NextHop, Hop, next_hops, hops_through, hops_beyond, first_hops, is_detour, is_static, hop_of}
use Rattle.policy_model.specs.Passing.{Config, device_passes}
use Rattle.policy_model.specs.Delivery.{Delivery, Arrived, ended_by, with_turn, arrival, turn, sent_by, delivery_within, delivery}
use Rattle.policy_model.specs.Headline.{Meaning, IsMeaning, permits_in, is_to_pass, IsSent, DevicesPass, TablesSend, is_all_static, has_no_detour, Delivers}
use Rattle.policy_model.proofs.AllWalks.{IsIn, from_map, in_numbers, in_allowed_walks, parts_of, managed_is_there}
use Rattle.list_laws.proofs.Members.{each_in}
use Rattle.policy_laws.specs.Secured.{AreSecured, HaveLists}
use Rattle.policy_laws.specs.Routed.{AreRouted, HaveTables}
use Rattle.policy_laws.proofs.Devices.{devices_pass}
use Rattle.policy_laws.proofs.NextHops.{by_cond}
use Rattle.policy_laws.proofs.Returns.{managed_there}
use Rattle.policy_laws.proofs.Routing.{tables_send}
use Rattle.delivery_laws.proofs.Ways.{IsItsWalk, GoesFrom, short, leaves, chosen, on_way, one_more, crossing_in, ends_there}
use Rattle.delivery_laws.proofs.Turns.{crossing, made, goes, is_there, is_further}
use Rattle.delivery_laws.proofs.Refused.{under_way, begins}

-- ---- a walk's next hops all leave by its interface

through_leaves : (out : ℕ) (ks : List ℕ) (h : NextHop) → IsIn h (hops_through out ks) → h.out ≡ out
through_leaves out ks h i =
    let w = from_map (λ (k : ℕ). let y : NextHop = record { out = out; next = Some k } in y) h ks i in
    ap (λ (y : NextHop). y.out) w.2

beyond_leaves : (p : Policy) (n out : ℕ) (rest : List Crossing) (h : NextHop) → IsIn h (hops_beyond p n out rest) → h.out ≡ out
beyond_leaves p n out [] h i = through_leaves out (first_hops p _ n) h i
beyond_leaves p n out (d ∷ rest) h i =
    by_cond (λ xs. IsIn h xs → h.out ≡ out) _ (hops_through out (d.enter ∷ [])) (hops_through out (first_hops p _ _))
    (λ b i. through_leaves out (d.enter ∷ []) h i) (λ b i. through_leaves out _ h i) i

hop_leaves : (p : Policy) (n : ℕ) (c : Crossing) (rest : List Crossing) (h : NextHop) → next_hops p n c rest ≡ h ∷ [] → h.out ≡ c.leave
hop_leaves p n c rest h is =
    let direct : NextHop = record { out = c.leave; next = None } in
    let leaves_by : (h : NextHop) → IsIn h (next_hops p n c rest) → h.out ≡ c.leave = λ h i.
    by_cond (λ xs. IsIn h xs → h.out ≡ c.leave) _ (direct ∷ []) (hops_beyond p n c.leave rest)
    (λ b i. ⊎_elim (λ e. ap (λ (y : NextHop). y.out) e) (λ none. absurd none) i) (λ b i. beyond_leaves p n c.leave rest h i) i in
    leaves_by h (subst (λ xs. IsIn h xs) (sym is) (inl refl))

-- ---- where the walk goes on behind a crossing

further : (s : Site) (x : Packet) (so_far : List Crossing) (d : Crossing) (rest : List Crossing) → IsItsWalk s x (so_far ++ d ∷ rest) →
    (zone_at s d.leave == zone_of s x.dst.net) ≡ false → GoesFrom s x (so_far ++ d ∷ [])
further s x so_far d [] walk elsewhere =
    let w = parts_of s (zone_of s x.src.net) (zone_of s x.dst.net) (so_far ++ d ∷ []) walk in
    absurd (false≢true (sym elsewhere ∙ ends_there (zone_at s) (zone_of s x.src.net) (zone_of s x.dst.net) so_far d w.ends))
further s x so_far d (e ∷ more) walk elsewhere = record { next = e; rest = more; walk = subst (IsItsWalk s x) (one_more so_far d (e ∷ more)) walk }

-- the router of a crossing is static where all are
static_there : (s : Site) (c : Crossing) → is_crossing s c ≡ true → IsTrue (is_all_static s.policy) → IsTrue (is_static s.policy (router_at s.policy c.enter))
static_there s c crosses all =
    let p = s.policy in
    let r = router_at p c.enter in
    let managed = managed_there s c crosses in
    let here = each_in (λ (r : ℕ). not (is_managed p r) || is_static p r) (all_routers p) all r (in_numbers (length p.routers) r (managed_is_there p r managed)) in
    second (is_managed p r) (is_static p r) managed here
  where
    second : (a b : Bool) → a ≡ true → (not a || b) ≡ true → b ≡ true
    second true b e h = h
    second false b e h = absurd (false≢true e)

-- it has arrived, and has not made too many turns
record IsInTime (most : ℕ) (so_far : List Crossing) (d : Delivery) : Type 0 where
  there : d.ending ≡ Arrived
  soon : length d.turns + length so_far ≤ most

module _ (m : Meaning) (configs : List Config) (passing : DevicesPass m configs) (sending : TablesSend m configs) (x : Packet) (choose : List Crossing → ℕ) (sent : IsSent m x choose) (pass : IsTrue (is_to_pass m x)) (static : IsTrue (is_all_static m.site.policy)) (straight : IsTrue (has_no_detour m x)) where
  abbrev most : ℕ
  most = length (managed_routers m.site.policy)

  at_end : (so_far : List Crossing) (d : Crossing) (h : Hop) → length so_far + 1 ≤ most → IsInTime most so_far (with_turn (made d h) (ended_by Arrived))
  at_end so_far d h le = record { there = refl; soon = omega (arith, le) }

  with_more : (so_far : List Crossing) (d : Crossing) (h : Hop) (e : Delivery) → IsInTime most (so_far ++ d ∷ []) e → IsInTime most so_far (with_turn (made d h) e)
  with_more so_far d h e later = record { there = later.there; soon = omega (arith, later.soon, length-append so_far (d ∷ [])) }

  no_detour : (so_far : List Crossing) (d : Crossing) (rest : List Crossing) → IsItsWalk m.site x (so_far ++ d ∷ rest) → IsTrue (not (is_detour m.site.policy x.dst.net d))
  no_detour so_far d rest walk =
      let path = so_far ++ d ∷ rest in
      let each = λ (path : List Crossing). list_all (λ (c : Crossing). not (is_detour m.site.policy x.dst.net c)) path in
      let here = each_in each (walks_of m.site x) straight path (in_allowed_walks m.site (zone_of m.site x.src.net) (zone_of m.site x.dst.net) path walk) in
      crossing_in (λ (c : Crossing). not (is_detour m.site.policy x.dst.net c)) so_far d rest here

  -- where the walk goes on by d, so does the turn
  one_turn : (next : List Crossing → Delivery) (so_far : List Crossing) (d : Crossing) (rest : List Crossing) → IsItsWalk m.site x (so_far ++ d ∷ rest) →
      (h : Hop) × (turn m.site m.views configs x next so_far d.enter (sent_by m.site m.views configs x d.enter) ≡ with_turn (made d h) (arrival m.site m.views configs x next so_far d))
  one_turn next so_far d rest walk =
      let s = m.site in
      let p = s.policy in
      let path = so_far ++ d ∷ rest in
      let way = under_way m x choose sent path walk in
      let parts = parts_of s (zone_of s x.src.net) (zone_of s x.dst.net) path walk in
      let crosses = crossing_in (is_crossing s) so_far d rest parts.crossings in
      let w = sending x so_far d rest way pass (static_there s d crosses static) (no_detour so_far d rest walk) in
      let h : NextHop = w.0 in
      let hop : Hop = hop_of p h in
      let leaves_by : h.out ≡ d.leave = hop_leaves p x.dst.net d rest h w.1 in
      let same : crossing d.enter h.out ≡ d = ap (crossing d.enter) leaves_by in
      let apart = (and_parts (crosses_managed p d) (not (zone_at s d.enter == zone_at s d.leave)) crosses).1 in
      let onward : (h.out == d.enter) ≡ false =
      ne_eqb h.out d.enter (λ e. false≢true (sym (not-true (zone_at s d.enter == zone_at s d.leave) apart) ∙ eq-eqb (zone_at s d.enter) (zone_at s d.leave) (ap (zone_at s) (sym e ∙ leaves_by)))) in
      let passed : device_passes s m.views configs x (crossing d.enter h.out) ≡ true =
      ap (device_passes s m.views configs x) same ∙ (passing x d (so_far, rest, way) ∙ pass) in (
        hop,
        goes s m.views configs x next so_far d.enter (sent_by s m.views configs x d.enter) hop w.2 onward passed
            ∙ ap (λ (c : Crossing). with_turn (made c hop) (arrival s m.views configs x next so_far c)) same,
      )

  arrives : (n : ℕ) (so_far : List Crossing) → GoesFrom m.site x so_far → most < n + length so_far → IsInTime most so_far (delivery_within m.site m.views configs x choose n so_far)
  arrives zero so_far g less =
      let a = short m.site x (so_far ++ g.next ∷ g.rest) g.walk in
      absurd (omega (arith, a, less, length-append so_far (g.next ∷ g.rest)))
  arrives (suc n) so_far g less =
      let s = m.site in
      let next = delivery_within s m.views configs x choose n in
      let c = chosen s x choose sent.choice so_far g in
      let d : Crossing = c.0.next in
      let rest = c.0.rest in
      let walk = c.0.walk in
      let t = one_turn next so_far d rest walk in
      let on = on_way s x so_far d rest walk in
      let a = short s x (so_far ++ d ∷ rest) walk in
      let le : length so_far + 1 ≤ most = omega (arith, a, length-append so_far (d ∷ rest)) in
      subst (λ (i : ℕ). IsInTime most so_far (turn s m.views configs x next so_far i (sent_by s m.views configs x i))) c.1
      (subst (IsInTime most so_far) (sym t.1)
      (⊎_elim
      (λ here. subst (λ (e : Delivery). IsInTime most so_far (with_turn (made d t.0) e)) (sym (is_there s m.views configs x next so_far d on here)) (at_end so_far d t.0 le))
      (λ elsewhere. subst (λ (e : Delivery). IsInTime most so_far (with_turn (made d t.0) e)) (sym (is_further s m.views configs x next so_far d on elsewhere))
      (with_more so_far d t.0 (next (so_far ++ d ∷ []))
      (arrives n (so_far ++ d ∷ []) (further s x so_far d rest walk elsewhere) (omega (arith, less, length-append so_far (d ∷ []))))))
      (cases_Bool (zone_at s d.leave == zone_of s x.dst.net))))

  whole : (delivery m.site m.views configs x choose).ending ≡ Arrived × (length (delivery m.site m.views configs x choose).turns ≤ most)
  whole =
      let t : IsInTime most [] (delivery m.site m.views configs x choose) =
      subst (IsInTime most []) (sym (begins m configs x choose sent)) (arrives (suc most) [] (leaves m.site x sent.walk sent.joined) (omega arith)) in
      (t.there, omega (arith, t.soon))

pub delivers : (p : Policy) (m : Meaning) (configs : List Config) → IsMeaning p m → AreSecured m.site m.views (permits_in m) → HaveLists m.site m.views (permits_in m) configs →
    AreRouted m.site m.views (permits_in m) → HaveTables m.site m.views (permits_in m) configs → Delivers m configs
delivers p m configs meaning ok lists routed tables x choose sent pass static straight =
    whole m configs (devices_pass m configs ok lists) (tables_send p m configs meaning routed tables) x choose sent pass static straight
