-- Packets that are to pass, where no end of a permit is hidden: no view that their walks meet hides an end.
use Rattle.std.proofs.Common.{◌≡◌, ℕ, suc, ◌<◌, ◌≤◌, ◌⊎◌, inl, inr, Bool, true, false, not, cond, List, [], ◌∷◌, ◌++◌, length, refl, ap, sym, subst, ◌∙◌, ⊎_elim, arith}
use Rattle.std.specs.Prelude.{◌==◌, ◌&&◌, ◌||◌, Option, Some, None, option_map, unwrap_or, is_some, is_none, find, slice_index_or}
use Rattle.std.specs.List.{list_any, list_all}
use Rattle.std.proofs.lemmas.Bool.{and_parts, and_from, or_cases, or_left, or_right, eqb-true, eq-eqb, lt-ltb, cases_lt, false≢true}
use Rattle.spoc_base.specs.Address.{Cidr}
use Rattle.policy_model.specs.Lists.{has}
use Rattle.policy_model.specs.Policy.{Policy, net_of, net_at, router_at, is_managed, all_ifaces}
use Rattle.policy_model.specs.Paths.{Crossing, leads, places_on, routers_on}
use Rattle.policy_model.specs.Zones.{IsSite, zone_of, zone_at, zone_count}
use Rattle.policy_model.specs.Tags.{AreViews, IsActive, binds, zone_view, router_view, ifaces_of}
use Rattle.policy_model.specs.Walks.{is_crossing, is_allowed_walk, allowed_walks, all_paths}
use Rattle.policy_model.specs.Laws.{way_back}
use Rattle.policy_model.specs.Places.{prefix_in}
use Rattle.policy_model.specs.Packets.{views_on, walks_of}
use Rattle.policy_model.specs.Permits.{Permit, Packet, end_holds, permit_holds, swapped_packet, may_be_reply, is_permitted, is_reply}
use Rattle.policy_model.specs.Blocks.{permit_at, no_permit}
use Rattle.policy_model.specs.Faults.{has_tag}
use Rattle.policy_model.specs.FirstFault.{NatTwice, HiddenEnd}
use Rattle.policy_model.specs.Headline.{Meaning, permits_in, is_to_pass}
use Rattle.policy_model.proofs.AllWalks.{IsIn, in_filter, in_numbers, in_allowed_walks, parts_of, from_map, managed_is_there}
use Rattle.list_laws.proofs.Members.{each_in, from_filter, in_either, some_in, some_of}
use Rattle.policy_laws.proofs.Devices.{interfaces_below}
use Rattle.policy_laws.proofs.InnerViews.{zone_below, its_inner_tags, inner_tag, of_router, keeps_from, passed_on}
use Rattle.policy_laws.proofs.Returns.{walks_return, in_way_back, managed_there}
use Rattle.topology.specs.First.{HasNone}
use Rattle.topology.specs.Sound.{IsSound}
use Rattle.address_laws.specs.Held.{sees_ends, is_seen_on_walks}

-- ---- places on a path

-- a crossing of the path leads to the place
record IsLedTo (at : ℕ → ℕ) (path : List Crossing) (z : ℕ) : Type 0 where
  before : List Crossing
  crossing : Crossing
  rest : List Crossing
  is : path ≡ before ++ crossing ∷ rest
  there : at crossing.leave ≡ z

led_later : (at : ℕ → ℕ) (c : Crossing) (path : List Crossing) (z : ℕ) → IsLedTo at path z → IsLedTo at (c ∷ path) z
led_later at c path z w = record { before = c ∷ w.before; crossing = w.crossing; rest = w.rest; is = ap (λ xs. c ∷ xs) w.is; there = w.there }

led_first : (at : ℕ → ℕ) (c : Crossing) (path : List Crossing) (z : ℕ) → z ≡ at c.leave → IsLedTo at (c ∷ path) z
led_first at c path z e = record { before = []; crossing = c; rest = path; is = refl; there = sym e }

place_on : (at : ℕ → ℕ) (from : ℕ) (path : List Crossing) (z : ℕ) → IsIn z (places_on at from path) → (z ≡ from) ⊎ IsLedTo at path z
place_on at from [] z (inl e) = inl e
place_on at from [] z (inr h) = absurd h
place_on at from (c ∷ path) z (inl e) = inl e
place_on at from (c ∷ path) z (inr h) = inr (⊎_elim (λ (e : z ≡ at c.leave). led_first at c path z e) (λ w. led_later at c path z w) (place_on at (at c.leave) path z h))

enter_place : (at : ℕ → ℕ) (from to : ℕ) (path : List Crossing) (i : ℕ) → leads at from path to ≡ true → list_any (λ d. d.enter == i) path ≡ true → IsIn (at i) (places_on at from path)
enter_place at from to [] i l h = absurd (false≢true h)
enter_place at from to (c ∷ path) i l h =
    let w = and_parts (at c.enter == from) (leads at (at c.leave) path to) l in
    ⊎_elim (λ e. inl (ap at (sym (eqb-true c.enter i e)) ∙ eqb-true (at c.enter) from w.0)) (λ g. inr (enter_place at (at c.leave) to path i w.1 g))
    (or_cases (c.enter == i) (list_any (λ (d : Crossing). d.enter == i) path) h)

end_place : (at : ℕ → ℕ) (from to : ℕ) (path : List Crossing) → leads at from path to ≡ true → IsIn to (places_on at from path)
end_place at from to [] l = inl (sym (eqb-true from to l))
end_place at from to (c ∷ path) l = inr (end_place at (at c.leave) to path (and_parts (at c.enter == from) (leads at (at c.leave) path to) l).1)

-- ---- the tag that counts

some_is : {A : Type 0} (x y : A) → ◌≡◌ {A = Option A} (Some x) (Some y) → x ≡ y
some_is x y e = cc e

no_some : {A : Type 0} (x : A) → ◌≡◌ {A = Option A} None (Some x) → ⊥
no_some x e = cc e

record IsFound {A : Type 0} (test : A → Bool) (xs : List A) (x : A) : Type 0 where
  there : IsIn x xs
  passes : test x ≡ true

found_in : {A : Type 0} (test : A → Bool) (xs : List A) (x : A) → find test xs ≡ Some x → IsFound test xs x
found_in test [] x e = absurd (no_some x e)
found_in {A} test (y ∷ ys) x e = go (test y) refl (λ h. found_in test ys x h) e
  where
    go : (b : Bool) → test y ≡ b → (find test ys ≡ Some x → IsFound test ys x) → cond b (Some y) (find test ys) ≡ Some x → IsFound test (y ∷ ys) x
    go true t later h = let same = some_is y x h in record { there = inl (sym same); passes = ap test (sym same) ∙ t }
    go false t later h = let w = later h in record { there = inr w.there; passes = w.passes }

-- where a second test passes the tag that the first one finds, and no other one of the list, it finds the same
find_same : (one two : ℕ → Bool) (xs : List (ℕ × Option Cidr)) (x : ℕ × Option Cidr) → find (λ nat. one nat.0) xs ≡ Some x → two x.0 ≡ true →
    ((y : ℕ × Option Cidr) → IsIn y xs → two y.0 ≡ true → y.0 ≡ x.0) → find (λ nat. two nat.0) xs ≡ Some x
find_same one two [] x e passes only = absurd (no_some x e)
find_same one two (y ∷ ys) x e passes only =
    go (one y.0) (two y.0) refl refl (found_in (λ (nat : ℕ × Option Cidr). one nat.0) (y ∷ ys) x e).passes (λ h. find_same one two ys x h passes (λ z i. only z (inr i))) e
  where
    go : (b c : Bool) → one y.0 ≡ b → two y.0 ≡ c → one x.0 ≡ true → (find (λ nat. one nat.0) ys ≡ Some x → find (λ nat. two nat.0) ys ≡ Some x) →
        cond b (Some y) (find (λ nat. one nat.0) ys) ≡ Some x → cond c (Some y) (find (λ nat. two nat.0) ys) ≡ Some x
    go true true f g first later h = h
    go true false f g first later h = absurd (false≢true (sym g ∙ (ap (λ (nat : ℕ × Option Cidr). two nat.0) (some_is y x h) ∙ passes)))
    go false true f g first later h = absurd (false≢true (sym f ∙ (ap one (only y (inl refl) g) ∙ first)))
    go false false f g first later h = later h

-- what hides a network in a view
record IsHiddenBy (p : Policy) (view : List ℕ) (n : ℕ) : Type 0 where
  nat : ℕ × Option Cidr
  found : find (λ (nat : ℕ × Option Cidr). has view nat.0) (net_of p n).nats ≡ Some nat
  hides : nat.1 ≡ None

hidden_by : (p : Policy) (view : List ℕ) (n : ℕ) → prefix_in p view n ≡ None → IsHiddenBy p view n
hidden_by p view n e = go (find (λ (nat : ℕ × Option Cidr). has view nat.0) (net_of p n).nats) refl e
  where
    go : (o : Option (ℕ × Option Cidr)) → find (λ (nat : ℕ × Option Cidr). has view nat.0) (net_of p n).nats ≡ o → unwrap_or (option_map (λ (nat : ℕ × Option Cidr). nat.1) o) (Some (net_of p n).own) ≡ None → IsHiddenBy p view n
    go None f h = absurd (no_some (net_of p n).own (sym h))
    go (Some nat) f h = record { nat = nat; found = f; hides = h }

some_or_none : (o : Option Cidr) → (o ≡ None → ⊥) → is_some o ≡ true
some_or_none None h = absurd (h refl)
some_or_none (Some q) h = refl

-- ---- a place of a list

record IsAt {A : Type 0} (xs : List A) (d x : A) : Type 0 where
  place : ℕ
  below : place < length xs
  is : slice_index_or xs place d ≡ x

place_of : {A : Type 0} (xs : List A) (d x : A) → IsIn x xs → IsAt xs d x
place_of [] d x h = absurd h
place_of (y ∷ ys) d x (inl e) = record { place = 0; below = omega arith; is = sym e }
place_of (y ∷ ys) d x (inr h) = let w = place_of ys d x h in record { place = suc w.place; below = omega (arith, w.below); is = w.is }

all_pass : {A : Type 0} (test : A → Bool) (xs : List A) → ((x : A) → IsIn x xs → test x ≡ true) → list_all test xs ≡ true
all_pass test [] each = refl
all_pass test (x ∷ xs) each = and_from (test x) (list_all test xs) (each x (inl refl)) (all_pass test xs (λ y h. each y (inr h)))

-- a permit of the list goes from the first network to the second
record GoesBetween (permits : List Permit) (u w : ℕ) : Type 0 where
  number : ℕ
  below : number < length permits
  src : (permit_at permits number).src.net ≡ u
  dst : (permit_at permits number).dst.net ≡ w

goes_between : (permits : List Permit) (x : Packet) → is_permitted permits x ≡ true → GoesBetween permits x.src.net x.dst.net
goes_between permits x h =
    let some = some_in (λ q. permit_holds q x) permits h in
    let q : Permit = some.0 in
    let at = place_of permits no_permit q some.1 in
    let a = and_parts (end_holds q.src x.src && end_holds q.dst x.dst) _ some.2 in
    let b = and_parts (end_holds q.src x.src) (end_holds q.dst x.dst) a.0 in
    let src = eqb-true q.src.net x.src.net (and_parts (q.src.net == x.src.net) _ b.0).0 in
    let dst = eqb-true q.dst.net x.dst.net (and_parts (q.dst.net == x.dst.net) _ b.1).0 in
    record { number = at.place; below = at.below; src = ap (λ (r : Permit). r.src.net) at.is ∙ src; dst = ap (λ (r : Permit). r.dst.net) at.is ∙ dst }

module _ (m : Meaning) (site : IsSite m.site) (viewed : AreViews m.site m.views) (sound : IsSound m.site.policy) (tags : HasNone m 1 3) (hidden : HasNone m 10 10) where
  -- ---- in zones

  shown_between : (u w : ℕ) → GoesBetween (permits_in m) u w → (path : List Crossing) → is_allowed_walk m.site (zone_of m.site u) (zone_of m.site w) path ≡ true →
      (z : ℕ) → z < zone_count m.site → IsIn z (places_on (zone_at m.site) (zone_of m.site u) path) → (n : ℕ) → ((n == u) || (n == w)) ≡ true → is_some (prefix_in m.site.policy (zone_view m.views z) n) ≡ true
  shown_between u w goes path allowed z below on n its =
      let s = m.site in
      let q = permit_at (permits_in m) goes.number in
      let walk : is_allowed_walk s (zone_of s q.src.net) (zone_of s q.dst.net) path ≡ true =
      subst (λ a. is_allowed_walk s (zone_of s a) (zone_of s q.dst.net) path ≡ true) (sym goes.src) (subst (λ b. is_allowed_walk s (zone_of s u) (zone_of s b) path ≡ true) (sym goes.dst) allowed) in
      let there = subst (λ a. IsIn z (places_on (zone_at s) (zone_of s a) path)) (sym goes.src) on in
      let an_end : ((n == q.src.net) || (n == q.dst.net)) ≡ true = subst (λ a. ((n == a) || (n == q.dst.net)) ≡ true) (sym goes.src) (subst (λ b. ((n == u) || (n == b)) ≡ true) (sym goes.dst) its) in
      let meets = some_of (λ (way : List Crossing). has (places_on (zone_at s) (zone_of s q.src.net) way) z) path (allowed_walks s (zone_of s q.src.net) (zone_of s q.dst.net))
      (in_allowed_walks s (zone_of s q.src.net) (zone_of s q.dst.net) path walk) (some_of (λ x. x == z) z (places_on (zone_at s) (zone_of s q.src.net) path) there (eq-eqb z z refl)) in
      some_or_none (prefix_in s.policy (zone_view m.views z) n)
      (λ none. hidden (HiddenEnd goes.number q.src.net q.dst.net n z) (record { lower = omega arith; upper = omega arith })
      (goes.below, below, and_from _ _ (and_from _ _ (and_from _ _ (parts_of s (zone_of s q.src.net) (zone_of s q.dst.net) path walk).elsewhere an_end) (ap is_none none)) meets, refl, refl))

  -- a place on a walk is on its way back
  on_way_back : (from to : ℕ) (path : List Crossing) → is_allowed_walk m.site from to path ≡ true → (z : ℕ) → IsIn z (places_on (zone_at m.site) from path) → IsIn z (places_on (zone_at m.site) to (way_back path))
  on_way_back from to path allowed z h =
      let s = m.site in
      let ends = (parts_of s to from (way_back path) (walks_return s from to path allowed)).ends in
      ⊎_elim (λ (e : z ≡ from). subst (λ y. IsIn y (places_on (zone_at s) to (way_back path))) (sym e) (end_place (zone_at s) to from (way_back path) ends))
      (λ w. subst (λ y. IsIn y (places_on (zone_at s) to (way_back path))) w.there
      (enter_place (zone_at s) to from (way_back path) w.crossing.leave ends
      (subst (λ way. list_any (λ (d : Crossing). d.enter == w.crossing.leave) (way_back way) ≡ true) (sym w.is) (in_way_back w.before w.crossing w.rest))))
      (place_on (zone_at s) from path z h)

  or_swapped : (a b : Bool) → (a || b) ≡ true → (b || a) ≡ true
  or_swapped a b h = ⊎_elim (λ t. or_right b a t) (λ t. or_left b a t) (or_cases a b h)

  module _ (x : Packet) (passing : is_to_pass m x ≡ true) where
    in_zones : (path : List Crossing) → is_allowed_walk m.site (zone_of m.site x.src.net) (zone_of m.site x.dst.net) path ≡ true → (z : ℕ) → z < zone_count m.site →
        IsIn z (places_on (zone_at m.site) (zone_of m.site x.src.net) path) → (n : ℕ) → ((n == x.src.net) || (n == x.dst.net)) ≡ true → is_some (prefix_in m.site.policy (zone_view m.views z) n) ≡ true
    in_zones path allowed z below on n its =
        let s = m.site in
        let from = zone_of s x.src.net in
        let to = zone_of s x.dst.net in
        ⊎_elim (λ permitted. shown_between x.src.net x.dst.net (goes_between (permits_in m) x permitted) path allowed z below on n its)
        (λ reply. shown_between x.dst.net x.src.net (goes_between (permits_in m) (swapped_packet x) (and_parts (may_be_reply x.transport) (is_permitted (permits_in m) (swapped_packet x)) reply).1)
        (way_back path) (walks_return s from to path allowed) z below (on_way_back from to path allowed z on) n (or_swapped (n == x.src.net) (n == x.dst.net) its))
        (or_cases (is_permitted (permits_in m) x) (is_reply (permits_in m) x) passing)

  -- ---- in routers

  zone_there : (i : ℕ) → i < length m.site.policy.ifaces → zone_at m.site i < zone_count m.site
  zone_there i below = zone_below m.site site (net_at m.site.policy i) (sound.numbered.placed i below).0

  -- a tag of a router's inner view is in force in the zone of each of its interfaces
  in_its_zone : (r j tag : ℕ) → is_managed m.site.policy r ≡ true → IsIn j (ifaces_of m.site.policy r) → has (router_view m.views r) tag ≡ true → has (zone_view m.views (zone_at m.site j)) tag ≡ true
  in_its_zone r j tag managed there seen =
      let s = m.site in
      let p = s.policy in
      let v = m.views in
      let hj = of_router p r j there in
      let w = inner_tag s v r tag (subst (λ view. has view tag ≡ true) (its_inner_tags s v viewed r (managed_is_there p r managed)) seen) in
      let i : ℕ = w.iface in
      let hi = of_router p r i w.there in
      let unbound = each_in (λ k. not (binds p k tag)) (ifaces_of p r) w.unbound in
      let active : IsActive s tag (zone_at s i) = (viewed.active (zone_at s i) tag (zone_there i hi.below)).0 w.seen in
      (viewed.active (zone_at s j) tag (zone_there j hj.below)).1 (passed_on s tag i j (keeps_from p r tag i j managed hi hj (unbound i w.there) (unbound j there)) active)

  two_in_zone : (n z a b : ℕ) → z < zone_count m.site → a < b → has_tag m.site.policy n a ≡ true → has_tag m.site.policy n b ≡ true → has (zone_view m.views z) a ≡ true → has (zone_view m.views z) b ≡ true → ⊥
  two_in_zone n z a b below lt one two here too =
      tags (NatTwice n z a b) (record { lower = omega arith; upper = omega arith })
      (below, and_from _ _ (and_from _ _ (and_from _ _ (and_from _ _ (lt-ltb a b lt) one) two) here) too)

  -- what a router hides inside, the zones at its interfaces hide
  hidden_outside : (r j n : ℕ) → is_managed m.site.policy r ≡ true → IsIn j (ifaces_of m.site.policy r) → prefix_in m.site.policy (router_view m.views r) n ≡ None →
      prefix_in m.site.policy (zone_view m.views (zone_at m.site j)) n ≡ None
  hidden_outside r j n managed there none =
      let p = m.site.policy in
      let z = zone_at m.site j in
      let view = zone_view m.views z in
      let nats = (net_of p n).nats in
      let zone = zone_there j (of_router p r j there).below in
      let w = hidden_by p (router_view m.views r) n none in
      let nat : ℕ × Option Cidr = w.nat in
      let f = found_in (λ (nat : ℕ × Option Cidr). has (router_view m.views r) nat.0) nats nat w.found in
      let here = in_its_zone r j nat.0 managed there f.passes in
      let tagged : (y : ℕ × Option Cidr) → IsIn y nats → has_tag p n y.0 ≡ true = λ y i. some_of (λ (k : ℕ × Option Cidr). k.0 == y.0) y nats i (eq-eqb y.0 y.0 refl) in
      let only : (y : ℕ × Option Cidr) → IsIn y nats → has view y.0 ≡ true → y.0 ≡ nat.0 = λ y i too.
      ⊎_elim (λ (lt : y.0 < nat.0). absurd (two_in_zone n z y.0 nat.0 zone lt (tagged y i) (tagged nat f.there) too here))
      (λ (le : nat.0 ≤ y.0). ⊎_elim (λ (gt : nat.0 < y.0). absurd (two_in_zone n z nat.0 y.0 zone gt (tagged nat f.there) (tagged y i) here too)) (λ (ge : y.0 ≤ nat.0). omega (arith, le, ge)) (cases_lt nat.0 y.0))
      (cases_lt y.0 nat.0) in
      ap (λ o. unwrap_or (option_map (λ (nat : ℕ × Option Cidr). nat.1) o) (Some (net_of p n).own)) (find_same (λ tag. has (router_view m.views r) tag) (λ tag. has view tag) nats nat w.found here only) ∙ w.hides

  -- ---- on walks

  module _ (x : Packet) (passing : is_to_pass m x ≡ true) (from_there : zone_of m.site x.src.net < zone_count m.site) where
    zones_there : (from : ℕ) (path : List Crossing) → from < zone_count m.site → ((c : Crossing) → IsIn c path → is_crossing m.site c ≡ true) → (z : ℕ) → IsIn z (places_on (zone_at m.site) from path) → z < zone_count m.site
    zones_there from [] below each z (inl e) = subst (λ k. k < zone_count m.site) (sym e) below
    zones_there from [] below each z (inr h) = absurd h
    zones_there from (c ∷ path) below each z (inl e) = subst (λ k. k < zone_count m.site) (sym e) below
    zones_there from (c ∷ path) below each z (inr h) =
        zones_there (zone_at m.site c.leave) path (zone_there c.leave (interfaces_below m.site c (each c (inl refl))).1) (λ d g. each d (inr g)) z h

    in_router : (path : List Crossing) → is_allowed_walk m.site (zone_of m.site x.src.net) (zone_of m.site x.dst.net) path ≡ true → (c : Crossing) → IsIn c path → (n : ℕ) → ((n == x.src.net) || (n == x.dst.net)) ≡ true →
        is_some (prefix_in m.site.policy (router_view m.views (router_at m.site.policy c.enter)) n) ≡ true
    in_router path allowed c there n its =
        let s = m.site in
        let p = s.policy in
        let from = zone_of s x.src.net in
        let to = zone_of s x.dst.net in
        let parts = parts_of s from to path allowed in
        let crossing = each_in (is_crossing s) path parts.crossings c there in
        let low = (interfaces_below s c crossing).0 in
        let r = router_at p c.enter in
        let listed = in_filter (λ i. router_at p i == r) c.enter (all_ifaces p) (in_numbers (length p.ifaces) c.enter low) (eq-eqb r r refl) in
        let on = enter_place (zone_at s) from to path c.enter parts.ends (some_of (λ (d : Crossing). d.enter == c.enter) c path there (eq-eqb c.enter c.enter refl)) in
        some_or_none (prefix_in p (router_view m.views r) n)
        (λ none. false≢true (ap is_some (sym (hidden_outside r c.enter n (managed_there s c crossing) listed none)) ∙ in_zones x passing path allowed (zone_at s c.enter) (zone_there c.enter low) on n its))

    sees : (view : List ℕ) → ((n : ℕ) → ((n == x.src.net) || (n == x.dst.net)) ≡ true → is_some (prefix_in m.site.policy view n) ≡ true) → sees_ends m.site.policy x view ≡ true
    sees view each =
        and_from _ _ (each x.src.net (or_left (x.src.net == x.src.net) (x.src.net == x.dst.net) (eq-eqb x.src.net x.src.net refl)))
        (each x.dst.net (or_right (x.dst.net == x.src.net) (x.dst.net == x.dst.net) (eq-eqb x.dst.net x.dst.net refl)))

    on_walk : (path : List Crossing) → is_allowed_walk m.site (zone_of m.site x.src.net) (zone_of m.site x.dst.net) path ≡ true → list_all (sees_ends m.site.policy x) (views_on m.site m.views (zone_of m.site x.src.net) path) ≡ true
    on_walk path allowed =
        let s = m.site in
        let from = zone_of s x.src.net in
        let parts = parts_of s from (zone_of s x.dst.net) path allowed in
        all_pass (sees_ends s.policy x) (views_on s m.views from path)
        (λ view h.
        ⊎_elim
        (λ g. let w = from_map (zone_view m.views) view (places_on (zone_at s) from path) g in
        subst (λ v. sees_ends s.policy x v ≡ true) (sym w.2)
        (sees (zone_view m.views w.0) (in_zones x passing path allowed w.0 (zones_there from path from_there (λ c i. each_in (is_crossing s) path parts.crossings c i) w.0 w.1) w.1)))
        (λ g. let w = from_map (router_view m.views) view (routers_on s.policy path) g in
        let k = from_map (λ (c : Crossing). router_at s.policy c.enter) w.0 path w.1 in
        let c : Crossing = k.0 in
        subst (λ v. sees_ends s.policy x v ≡ true) (sym (w.2 ∙ ap (router_view m.views) k.2)) (sees (router_view m.views (router_at s.policy c.enter)) (in_router path allowed c k.1)))
        (in_either view _ _ h))

    pub seen_on_walks : is_seen_on_walks m.site m.views x ≡ true
    seen_on_walks =
        let allowed = is_allowed_walk m.site (zone_of m.site x.src.net) (zone_of m.site x.dst.net) in
        all_pass (λ path. list_all (sees_ends m.site.policy x) (views_on m.site m.views (zone_of m.site x.src.net) path)) (walks_of m.site x) (λ path h. on_walk path (from_filter allowed path (all_paths m.site) h).1)
