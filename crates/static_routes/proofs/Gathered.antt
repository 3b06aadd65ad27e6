-- What is gathered from the marks of all traffic are the next hops of static routers.
use Rattle.std.proofs.Common.{◌≡◌, ℕ, ◌<◌, inl, inr, Bool, true, false, not, cond, ◌&&◌, ◌||◌, List, [], ◌∷◌, length, map, refl, sym, ap, subst, ◌∙◌, ⊎_elim}
use Rattle.std.specs.Prelude.{◌==◌, filter, flat_map}
use Rattle.std.specs.List.{All, AllByRecursion, Contains}
use Rattle.std.proofs.lemmas.Bool.{and_parts, and_from, or_cases, or_left, or_right, eqb-true, eq-eqb, not-true}
use Rattle.std.proofs.lemmas.List.Elements.{All-from_recursion, recursion_from_All}
use Rattle.policy_model.specs.Policy.{Policy, router_at, all_nets}
use Rattle.policy_model.specs.Zones.{Site, zone_of, zone_at}
use Rattle.policy_model.specs.Marks.{Link, marked_crossings, marked_links}
use Rattle.policy_model.specs.Paths.{Crossing}
use Rattle.policy_model.specs.Permits.{Permit, has_replies}
use Rattle.policy_model.specs.Routes.{NextHop, is_used, is_static, hops_of}
use Rattle.policy_model.specs.FirstFault.{has_hop}
use Rattle.policy_model.proofs.AllWalks.{IsIn, in_front, in_back, in_map, in_flat_map, in_filter, in_numbers, from_map, parts_of}
use Rattle.list_laws.proofs.Members.{in_either, some_in, some_of, from_filter, same_truth}
use Rattle.list_laws.proofs.Tables.{from_flat_map}
use Rattle.permit_set.specs.declared.permit.Permit.{Permit as Stored}
use Rattle.permit_set.specs.Shown.{permit_of}
use Rattle.zone_graph.specs.declared.marks.PairMarks.{PairMarks}
use Rattle.route_laws.specs.Marked.{last_hops, hops_over, crossing_hops, link_hops, hops_marked, marked_hops}
use Rattle.route_laws.proofs.Marking.{in_if, from_if, has_in, in_has, marks_give}
use Rattle.route_laws.proofs.Walked.{walk_of_crossing, walk_of_link}
use Rattle.static_routes.specs.Chains.{pair_order}
use Rattle.static_routes.specs.Found.{FoundHop, found_of, found_order, with_keys, with_found, found_at, crossing_found, link_found, way_found}
use Rattle.static_routes.specs.Tables.{zones_named, HaveMarks}
use Rattle.static_routes.specs.Ways.{way_of, permit_ways, AreAtNets, IsNamed}
use Rattle.static_routes.proofs.Keys.{from_keys, in_keys, pair_one, found_one, holds, held_in, in_held}

-- ---- one way

-- a hop that was found at a router and a network is one of theirs
record IsFoundAt (p : Policy) (r v at n : ℕ) (hops : List NextHop) (h : NextHop) : Type 0 where
  router : r ≡ at
  net : v ≡ n
  fixed : is_static p r ≡ true
  hop : IsIn h hops

found_from : (p : Policy) (r v at n : ℕ) (hops : List NextHop) (h : NextHop) → IsIn (found_of r v h) (found_at p at n hops) → IsFoundAt p r v at n hops h
found_from p r v at n hops h i =
    let t = from_if (is_static p at) (found_of r v h) (map (found_of at n) hops) i in
    let w = from_map (found_of at n) (found_of r v h) hops t.1 in
    let router : r ≡ at = ap (λ (e : FoundHop). e.0.0) w.2 in
    let same : h ≡ w.0 = ap (λ (e : FoundHop). let x : NextHop = record { out = e.1.0; next = e.1.1 } in x) w.2 in
    record {
      router = router;
      net = ap (λ (e : FoundHop). e.0.1) w.2;
      fixed = subst (λ (x : ℕ). is_static p x ≡ true) (sym router) t.0;
      hop = subst (λ (x : NextHop). IsIn x hops) (sym same) w.1;
    }

found_in : (p : Policy) (r v : ℕ) (hops : List NextHop) (h : NextHop) → is_static p r ≡ true → IsIn h hops → IsIn (found_of r v h) (found_at p r v hops)
found_in p r v hops h fixed i = in_if (is_static p r) (found_of r v h) (map (found_of r v) hops) fixed (in_map (found_of r v) h hops i)

record IsMarkedHop (s : Site) (from r v n : ℕ) (h : NextHop) : Type 0 where
  net : v ≡ n
  fixed : is_static s.policy r ≡ true
  hop : IsIn h (hops_marked s r v from)

from_way : (s : Site) (from n r v : ℕ) (h : NextHop) → IsIn (found_of r v h) (way_found s from n) → IsMarkedHop s from r v n h
from_way s from n r v h i =
    let crossings = λ (m : ℕ). flat_map (crossing_hops s r m) (marked_crossings s from (zone_of s m)) in
    let links = λ (m : ℕ). flat_map (link_hops s r) (marked_links s from (zone_of s m)) in
    ⊎_elim
    (λ e. let x = from_flat_map (crossing_found s n) (found_of r v h) (marked_crossings s from (zone_of s n)) e in
    let c : Crossing = x.0 in
    let at = router_at s.policy c.leave in
    let hops = last_hops s.policy n c.leave in
    let t = from_if (zone_at s c.leave == zone_of s n) (found_of r v h) (found_at s.policy at n hops) x.2 in
    let f = found_from s.policy r v at n hops h t.1 in
    let here : IsIn h (crossing_hops s r n c) = in_if ((at == r) && (zone_at s c.leave == zone_of s n)) h hops (and_from (at == r) (zone_at s c.leave == zone_of s n) (eq-eqb at r (sym f.router)) t.0) f.hop in
    record { net = f.net; fixed = f.fixed; hop = subst (λ (m : ℕ). IsIn h (hops_marked s r m from)) (sym f.net) (in_front h (crossings n) (links n) (in_flat_map (crossing_hops s r n) c h (marked_crossings s from (zone_of s n)) x.1 here)) })
    (λ e. let x = from_flat_map (link_found s n) (found_of r v h) (marked_links s from (zone_of s n)) e in
    let l : Link = x.0 in
    let at = router_at s.policy l.leave in
    let hops = hops_over s.policy l in
    let f = found_from s.policy r v at n hops h x.2 in
    let here : IsIn h (link_hops s r l) = in_if (at == r) h hops (eq-eqb at r (sym f.router)) f.hop in
    record { net = f.net; fixed = f.fixed; hop = subst (λ (m : ℕ). IsIn h (hops_marked s r m from)) (sym f.net) (in_back h (crossings n) (links n) (in_flat_map (link_hops s r) l h (marked_links s from (zone_of s n)) x.1 here)) })
    (in_either (found_of r v h) (flat_map (crossing_found s n) (marked_crossings s from (zone_of s n))) (flat_map (link_found s n) (marked_links s from (zone_of s n))) i)

-- and a hop that marks give is found, and the zones differ
to_way : (s : Site) (from r v : ℕ) (h : NextHop) → is_static s.policy r ≡ true → IsIn h (hops_marked s r v from) →
    IsIn (found_of r v h) (way_found s from v) × (not (from == zone_of s v) ≡ true)
to_way s from r v h fixed i =
    let to = zone_of s v in
    let crossings = flat_map (crossing_found s v) (marked_crossings s from to) in
    let links = flat_map (link_found s v) (marked_links s from to) in
    ⊎_elim
    (λ e. let x = from_flat_map (crossing_hops s r v) h (marked_crossings s from to) e in
    let c : Crossing = x.0 in
    let at = router_at s.policy c.leave in
    let hops = last_hops s.policy v c.leave in
    let t = from_if ((at == r) && (zone_at s c.leave == to)) h hops x.2 in
    let a = and_parts (at == r) (zone_at s c.leave == to) t.0 in
    let here : IsIn (found_of r v h) (found_at s.policy at v hops) = subst (λ (y : ℕ). IsIn (found_of r v h) (found_at s.policy y v hops)) (sym (eqb-true at r a.0)) (found_in s.policy r v hops h fixed t.1) in
    let w = walk_of_crossing s from to c x.1 in (
      in_front (found_of r v h) crossings links (in_flat_map (crossing_found s v) c (found_of r v h) (marked_crossings s from to) x.1 (in_if (zone_at s c.leave == to) (found_of r v h) (found_at s.policy at v hops) a.1 here)),
      (parts_of s from to w.0 w.1).elsewhere,
    ))
    (λ e. let x = from_flat_map (link_hops s r) h (marked_links s from to) e in
    let l : Link = x.0 in
    let at = router_at s.policy l.leave in
    let hops = hops_over s.policy l in
    let t = from_if (at == r) h hops x.2 in
    let here : IsIn (found_of r v h) (link_found s v l) = subst (λ (y : ℕ). IsIn (found_of r v h) (found_at s.policy y v hops)) (sym (eqb-true at r t.0)) (found_in s.policy r v hops h fixed t.1) in
    let w = walk_of_link s from to l x.1 in
    (in_back (found_of r v h) crossings links (in_flat_map (link_found s v) l (found_of r v h) (marked_links s from to) x.1 here), (parts_of s from to w.0 w.1).elsewhere))
    (in_either h (flat_map (crossing_hops s r v) (marked_crossings s from to)) (flat_map (link_hops s r) (marked_links s from to)) i)

-- ---- all ways

-- traffic from a network goes this way
record GoesFrom (s : Site) (permits : List Permit) (way : ℕ × ℕ) : Type 0 where
  src : ℕ
  there : src < length s.policy.nets
  below : way.1 < length s.policy.nets
  used : is_used permits src way.1 ≡ true
  zone : way.0 ≡ zone_of s src
  apart : (zone_of s src == zone_of s way.1) ≡ false

-- the networks of permits are there
abbrev AreThere : Site → List Permit → Type 0
AreThere s permits = (q : Permit) → IsIn q permits → (q.src.net < length s.policy.nets) × (q.dst.net < length s.policy.nets)

used_forth : (permits : List Permit) (q : Permit) → IsIn q permits → is_used permits q.src.net q.dst.net ≡ true
used_forth permits q i =
    let u = q.src.net in
    let v = q.dst.net in
    some_of (λ (x : Permit). ((x.src.net == u) && (x.dst.net == v)) || ((x.src.net == v) && (x.dst.net == u) && has_replies x.box)) q permits i
    (or_left ((q.src.net == u) && (q.dst.net == v)) ((q.src.net == v) && (q.dst.net == u) && has_replies q.box) (and_from (q.src.net == u) (q.dst.net == v) (eq-eqb u u refl) (eq-eqb v v refl)))

used_back : (permits : List Permit) (q : Permit) → IsIn q permits → has_replies q.box ≡ true → is_used permits q.dst.net q.src.net ≡ true
used_back permits q i replied =
    let u = q.dst.net in
    let v = q.src.net in
    some_of (λ (x : Permit). ((x.src.net == u) && (x.dst.net == v)) || ((x.src.net == v) && (x.dst.net == u) && has_replies x.box)) q permits i
    (or_right ((q.src.net == u) && (q.dst.net == v)) ((q.src.net == v) && (q.dst.net == u) && has_replies q.box)
    (and_from ((q.src.net == v) && (q.dst.net == u)) (has_replies q.box) (and_from (q.src.net == v) (q.dst.net == u) (eq-eqb v v refl) (eq-eqb u u refl)) replied))

from_way_of : (s : Site) (permits : List Permit) (u v : ℕ) (way : ℕ × ℕ) → u < length s.policy.nets → v < length s.policy.nets → is_used permits u v ≡ true → IsIn way (way_of s u v) → GoesFrom s permits way
from_way_of s permits u v way below there used i = go (zone_of s u == zone_of s v) refl i
  where
    go : (b : Bool) → (zone_of s u == zone_of s v) ≡ b → IsIn way (cond b [] ((zone_of s u, v) ∷ [])) → GoesFrom s permits way
    go true e h = absurd h
    go false e (inr h) = absurd h
    go false e (inl h) =
        let net : way.1 ≡ v = ap (λ (w : ℕ × ℕ). w.1) h in
        record {
          src = u;
          there = below;
          below = subst (λ (n : ℕ). n < length s.policy.nets) (sym net) there;
          used = subst (λ (n : ℕ). is_used permits u n ≡ true) (sym net) used;
          zone = ap (λ (w : ℕ × ℕ). w.0) h;
          apart = subst (λ (n : ℕ). (zone_of s u == zone_of s n) ≡ false) (sym net) e;
        }

to_way_of : (s : Site) (u v : ℕ) → not (zone_of s u == zone_of s v) ≡ true → IsIn (zone_of s u, v) (way_of s u v)
to_way_of s u v h = subst (λ (b : Bool). IsIn {A = ℕ × ℕ} (zone_of s u, v) (cond b [] ((zone_of s u, v) ∷ []))) (sym (not-true (zone_of s u == zone_of s v) h)) (inl refl)

ways_go : (s : Site) (permits : List Permit) → AreThere s permits → (way : ℕ × ℕ) → IsIn way (with_keys pair_order [] (flat_map (permit_ways s) permits)) → GoesFrom s permits way
ways_go s permits at way i =
    ⊎_elim (λ no. absurd no)
    (λ e. let x = from_flat_map (permit_ways s) way permits e in
    let q : Permit = x.0 in
    let n = at q x.1 in
    ⊎_elim (λ h. from_way_of s permits q.src.net q.dst.net way n.0 n.1 (used_forth permits q x.1) h)
    (λ h. let t = from_if (has_replies q.box) way (way_of s q.dst.net q.src.net) h in from_way_of s permits q.dst.net q.src.net way n.1 n.0 (used_back permits q x.1 t.0) t.1)
    (in_either way (way_of s q.src.net q.dst.net) (cond (has_replies q.box) (way_of s q.dst.net q.src.net) []) x.2))
    (from_keys pair_order [] (flat_map (permit_ways s) permits) way i)

goes_way : (s : Site) (permits : List Permit) (u v : ℕ) → is_used permits u v ≡ true → not (zone_of s u == zone_of s v) ≡ true → IsIn (zone_of s u, v) (with_keys pair_order [] (flat_map (permit_ways s) permits))
goes_way s permits u v used apart =
    let one = λ (x : Permit). (x.src.net == u) && (x.dst.net == v) in
    let two = λ (x : Permit). (x.src.net == v) && (x.dst.net == u) && has_replies x.box in
    let w = some_in (λ (x : Permit). one x || two x) permits used in
    let q : Permit = w.0 in
    let there = to_way_of s u v apart in
    in_keys pair_order pair_one [] (flat_map (permit_ways s) permits) (zone_of s u, v)
    (in_flat_map (permit_ways s) q (zone_of s u, v) permits w.1
    (⊎_elim
    (λ h. let a = and_parts (q.src.net == u) (q.dst.net == v) h in
    in_front (zone_of s u, v) (way_of s q.src.net q.dst.net) (cond (has_replies q.box) (way_of s q.dst.net q.src.net) [])
    (subst (λ (n : ℕ). IsIn (zone_of s u, v) (way_of s n q.dst.net)) (sym (eqb-true q.src.net u a.0)) (subst (λ (n : ℕ). IsIn (zone_of s u, v) (way_of s u n)) (sym (eqb-true q.dst.net v a.1)) there)))
    (λ h. let a = and_parts ((q.src.net == v) && (q.dst.net == u)) (has_replies q.box) h in
    let b = and_parts (q.src.net == v) (q.dst.net == u) a.0 in
    in_back (zone_of s u, v) (way_of s q.src.net q.dst.net) (cond (has_replies q.box) (way_of s q.dst.net q.src.net) [])
    (in_if (has_replies q.box) (zone_of s u, v) (way_of s q.dst.net q.src.net) a.1
    (subst (λ (n : ℕ). IsIn (zone_of s u, v) (way_of s n q.src.net)) (sym (eqb-true q.dst.net u b.1)) (subst (λ (n : ℕ). IsIn (zone_of s u, v) (way_of s u n)) (sym (eqb-true q.src.net v b.0)) there))))
    (or_cases (one q) (two q) w.2)))

-- ---- the set of all

abbrev all_found : Site → List (ℕ × ℕ) → List FoundHop
all_found s ways = flat_map (λ w. way_found s w.0 w.1) ways

pub gathered : (s : Site) (permits : List Permit) → AreThere s permits → (ways : List (ℕ × ℕ)) → ways ≡ with_keys pair_order [] (flat_map (permit_ways s) permits) →
    (none keys : List FoundHop) → none ≡ [] → keys ≡ with_found none (all_found s ways) → (r v : ℕ) (h : NextHop) →
    holds keys (found_of r v h) ≡ (is_static s.policy r && has_hop (hops_of s permits r v) h)
gathered s permits at ways is none keys e made r v h =
    ap (λ (l : List FoundHop). holds l (found_of r v h)) (made ∙ ap (λ (l : List FoundHop). with_found l (all_found s ways)) e)
    ∙ same_truth (holds (with_found [] (all_found s ways)) (found_of r v h)) (is_static s.policy r && has_hop (hops_of s permits r v) h) first second
  where
    first : holds (with_found [] (all_found s ways)) (found_of r v h) ≡ true → (is_static s.policy r && has_hop (hops_of s permits r v) h) ≡ true
    first t =
        ⊎_elim (λ no. absurd no)
        (λ i. let x = from_flat_map (λ (w : ℕ × ℕ). way_found s w.0 w.1) (found_of r v h) ways i in
        let way : ℕ × ℕ = x.0 in
        let g = ways_go s permits at way (subst (λ (l : List (ℕ × ℕ)). IsIn way l) is x.1) in
        let m = from_way s way.0 way.1 r v h x.2 in
        let hop : IsIn h (marked_hops s permits r v) =
        in_flat_map (λ u. hops_marked s r v (zone_of s u)) g.src h (filter (λ u. is_used permits u v) (all_nets s.policy))
        (in_filter (λ u. is_used permits u v) g.src (all_nets s.policy) (in_numbers (length s.policy.nets) g.src g.there) (subst (λ (n : ℕ). is_used permits g.src n ≡ true) (sym m.net) g.used))
        (subst (λ (z : ℕ). IsIn h (hops_marked s r v z)) g.zone m.hop) in
        and_from (is_static s.policy r) (has_hop (hops_of s permits r v) h) m.fixed (marks_give s permits r v h ∙ has_in (marked_hops s permits r v) h hop))
        (from_keys found_order [] (all_found s ways) (found_of r v h) (held_in (with_found [] (all_found s ways)) (found_of r v h) t))

    second : (is_static s.policy r && has_hop (hops_of s permits r v) h) ≡ true → holds (with_found [] (all_found s ways)) (found_of r v h) ≡ true
    second t =
        let a = and_parts (is_static s.policy r) (has_hop (hops_of s permits r v) h) t in
        let i = in_has (marked_hops s permits r v) h (sym (marks_give s permits r v h) ∙ a.1) in
        let x = from_flat_map (λ u. hops_marked s r v (zone_of s u)) h (filter (λ u. is_used permits u v) (all_nets s.policy)) i in
        let u : ℕ = x.0 in
        let f = from_filter (λ u. is_used permits u v) u (all_nets s.policy) x.1 in
        let w = to_way s (zone_of s u) r v h a.0 x.2 in
        in_held (with_found [] (all_found s ways)) (found_of r v h)
        (in_keys found_order found_one [] (all_found s ways) (found_of r v h)
        (in_flat_map (λ (w : ℕ × ℕ). way_found s w.0 w.1) (zone_of s u, v) (found_of r v h) ways
        (subst (λ (l : List (ℕ × ℕ)). IsIn (zone_of s u, v) l) (sym is) (goes_way s permits u v f.1 w.1)) w.0))

-- ---- what is asked of the permits, and of the tables

pub nets_there : (s : Site) (permits : List Stored) → AreAtNets s.policy permits → AreThere s (map permit_of permits)
nets_there s permits all q i = go permits (recursion_from_All _ permits all) i
  where
    go : (qs : List Stored) → AllByRecursion (λ q. (q.src.net.0 < length s.policy.nets) × (q.dst.net.0 < length s.policy.nets)) qs → IsIn q (map permit_of qs) →
        (q.src.net < length s.policy.nets) × (q.dst.net < length s.policy.nets)
    go [] each h = absurd h
    go (x ∷ xs) each (inl h) = subst (λ (y : Permit). (y.src.net < length s.policy.nets) × (y.dst.net < length s.policy.nets)) (sym h) each.0
    go (x ∷ xs) each (inr h) = go xs each.1 h

pub ways_named : (s : Site) (permits : List Permit) → AreThere s permits → (tables : List PairMarks) → HaveMarks s permits tables → (ways : List (ℕ × ℕ)) →
    ways ≡ with_keys pair_order [] (flat_map (permit_ways s) permits) → All (IsNamed s (map zones_named tables)) ways
ways_named s permits at tables marks ways is =
    All-from_recursion (IsNamed s (map zones_named tables)) ways (go ways (λ way i. ways_go s permits at way (subst (λ (l : List (ℕ × ℕ)). IsIn way l) is i)))
  where
    go : (xs : List (ℕ × ℕ)) → ((way : ℕ × ℕ) → IsIn way xs → GoesFrom s permits way) → AllByRecursion (IsNamed s (map zones_named tables)) xs
    go [] each = tt
    go (x ∷ xs) each =
        let g = each x (inl refl) in (
          record { there = g.below; named = subst (λ (z : ℕ). Contains (map zones_named tables) (z, zone_of s x.1)) (sym g.zone) (marks.there g.src x.1 g.used g.apart) },
          go xs (λ way i. each way (inr i)),
        )
