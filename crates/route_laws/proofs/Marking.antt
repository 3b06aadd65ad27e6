-- The next hops that marks give are those of the walks.
use Rattle.std.proofs.Common.{◌≡◌, ℕ, ◌<◌, inl, inr, Bool, true, false, not, cond, ◌&&◌, List, [], ◌∷◌, ◌++◌, length, Option, Some, None, refl, sym, ap, subst, ◌∙◌, ⊎_elim}
use Rattle.std.specs.Prelude.{◌==◌, filter, flat_map}
use Rattle.std.proofs.lemmas.Bool.{and_parts, and_from, eqb-true, eq-eqb, false_from_ne_true}
use Rattle.policy_model.specs.Lists.{once_each}
use Rattle.policy_model.specs.Policy.{Policy, net_at, router_at, all_nets}
use Rattle.policy_model.specs.Paths.{Crossing}
use Rattle.policy_model.specs.Zones.{Site, zone_of, zone_at}
use Rattle.policy_model.specs.Walks.{is_allowed_walk, allowed_walks}
use Rattle.policy_model.specs.Marks.{Link, marked_crossings, marked_links}
use Rattle.policy_model.specs.Permits.{Permit}
use Rattle.policy_model.specs.Routes.{NextHop, same_number, same_next_hop, next_hops, hops_on, is_used, hops_of}
use Rattle.policy_model.specs.FirstFault.{has_hop}
use Rattle.policy_model.proofs.AllWalks.{IsIn, in_front, in_back, in_flat_map, in_filter, in_numbers, parts_of}
use Rattle.list_laws.proofs.Members.{in_either, some_in, some_of, from_filter, same_truth}
use Rattle.list_laws.proofs.Tables.{from_flat_map}
use Rattle.fault_laws.proofs.Orders.{from_numbers}
use Rattle.policy_laws.proofs.NextHops.{same_next_hop_true, in_hops_of}
use Rattle.route_laws.specs.Marked.{last_hops, hops_over, crossing_hops, link_hops, hops_marked, marked_hops}
use Rattle.route_laws.proofs.Walked.{ends_there, goes_beyond, StandsOn, Follows, in_middle, crosses, goes_through, is_walk_of, crossing_marked, link_marked, walk_of_crossing, walk_of_link}

-- ---- words

pub in_if : {A : Type 0} (b : Bool) (x : A) (xs : List A) → b ≡ true → IsIn x xs → IsIn x (cond b xs [])
in_if {A} b x xs e i = subst (λ (t : Bool). IsIn x (cond t xs [])) (sym e) i

pub from_if : {A : Type 0} (b : Bool) (x : A) (xs : List A) → IsIn x (cond b xs []) → (b ≡ true) × IsIn x xs
from_if true x xs i = (refl, i)
from_if false x xs i = absurd i

pub from_once : {A : Type 0} (same : A → A → Bool) (x : A) (xs : List A) → IsIn x (once_each same xs) → IsIn x xs
from_once same x [] h = absurd h
from_once same x (y ∷ ys) (inl e) = inl e
from_once same x (y ∷ ys) (inr h) = inr (from_once same x ys (from_filter (λ z. not (same y z)) x (once_each same ys) h).0)

pub same_number_self : (o : Option ℕ) → same_number o o ≡ true
same_number_self None = refl
same_number_self (Some n) = eq-eqb n n refl

pub same_next_hop_self : (h : NextHop) → same_next_hop h h ≡ true
same_next_hop_self h = and_from (h.out == h.out) (same_number h.next h.next) (eq-eqb h.out h.out refl) (same_number_self h.next)

pub has_in : (hops : List NextHop) (h : NextHop) → IsIn h hops → has_hop hops h ≡ true
has_in hops h i = some_of (same_next_hop h) h hops i (same_next_hop_self h)

pub in_has : (hops : List NextHop) (h : NextHop) → has_hop hops h ≡ true → IsIn h hops
in_has hops h t = let w = some_in (same_next_hop h) hops t in subst (λ (k : NextHop). IsIn k hops) (sym (same_next_hop_true h w.0 w.2)) w.1

-- ---- a hop of a router stands at a crossing of a walk

pub record HopOn (p : Policy) (v r : ℕ) (path : List Crossing) (h : NextHop) : Type 0 where
  pub before : List Crossing
  pub at : Crossing
  pub rest : List Crossing
  pub whole : path ≡ before ++ at ∷ rest
  pub router : router_at p at.enter ≡ r
  pub hop : IsIn h (next_hops p v at rest)

hop_on : (p : Policy) (v r : ℕ) (path : List Crossing) (h : NextHop) → IsIn h (hops_on p v r path) → HopOn p v r path h
hop_on p v r [] h i = absurd i
hop_on p v r (c ∷ path) h i =
    ⊎_elim
    (λ e. let w = from_if (router_at p c.enter == r) h (next_hops p v c path) e in
    record { before = []; at = c; rest = path; whole = refl; router = eqb-true (router_at p c.enter) r w.0; hop = w.1 })
    (λ e. let w = hop_on p v r path h e in
    record { before = c ∷ w.before; at = w.at; rest = w.rest; whole = ap (λ xs. c ∷ xs) w.whole; router = w.router; hop = w.hop })
    (in_either h (cond (router_at p c.enter == r) (next_hops p v c path) []) (hops_on p v r path) i)

-- a hop of a router, on a walk of traffic
pub record HopOf (s : Site) (permits : List Permit) (r v : ℕ) (h : NextHop) : Type 0 where
  pub src : ℕ
  pub there : src < length s.policy.nets
  pub used : is_used permits src v ≡ true
  pub path : List Crossing
  pub walk : IsIn path (allowed_walks s (zone_of s src) (zone_of s v))
  pub on : HopOn s.policy v r path h

pub hop_of_walk : (s : Site) (permits : List Permit) (r v : ℕ) (h : NextHop) → IsIn h (hops_of s permits r v) → HopOf s permits r v h
hop_of_walk s permits r v h i =
    let p = s.policy in
    let of_net = λ (u : ℕ). flat_map (hops_on p v r) (allowed_walks s (zone_of s u) (zone_of s v)) in
    let nets = filter (λ u. is_used permits u v) (all_nets p) in
    let w = from_flat_map of_net h nets (from_once same_next_hop h (flat_map of_net nets) i) in
    let f = from_filter (λ u. is_used permits u v) w.0 (all_nets p) w.1 in
    let x = from_flat_map (hops_on p v r) h (allowed_walks s (zone_of s w.0) (zone_of s v)) w.2 in
    record { src = w.0; there = from_numbers (length p.nets) w.0 f.0; used = f.1; path = x.0; walk = x.1; on = hop_on p v r x.0 h x.2 }

-- ---- from walks to marks

not_there : (s : Site) (v i : ℕ) → ((zone_at s i == zone_of s v) ≡ true → ⊥) → (net_at s.policy i == v) ≡ false
not_there s v i apart =
    false_from_ne_true (net_at s.policy i == v) (λ e. apart (eq-eqb (zone_at s i) (zone_of s v) (ap (zone_of s) (eqb-true (net_at s.policy i) v e))))

-- beyond the destination's zone, the hops go to where the walk enters next
pub beyond : (s : Site) (from v : ℕ) (before : List Crossing) (c d : Crossing) (rest : List Crossing) → is_allowed_walk s from (zone_of s v) (before ++ c ∷ d ∷ rest) ≡ true →
    next_hops s.policy v c (d ∷ rest) ≡ hops_over s.policy (record { leave = c.leave; enter = d.enter })
beyond s from v before c d rest walk =
    let w = parts_of s from (zone_of s v) (before ++ c ∷ d ∷ rest) walk in
    let direct : NextHop = record { out = c.leave; next = None } in
    let l : Link = record { leave = c.leave; enter = d.enter } in
    ap (λ (b : Bool). cond b (direct ∷ []) (hops_over s.policy l))
    (not_there s v c.leave (goes_beyond (zone_at s) from (zone_of s v) before c d rest w.ends w.zones_once))

marked_by : (s : Site) (from r v : ℕ) (before : List Crossing) (c : Crossing) (rest : List Crossing) (h : NextHop) →
    IsIn (before ++ c ∷ rest) (allowed_walks s from (zone_of s v)) → router_at s.policy c.enter ≡ r → IsIn h (next_hops s.policy v c rest) → IsIn h (hops_marked s r v from)
marked_by s from r v before c [] h i same hop =
    let p = s.policy in
    let to = zone_of s v in
    let path = before ++ c ∷ [] in
    let walk = is_walk_of s from to path i in
    let t = goes_through s c (crosses s from to path c walk (in_middle before c [])) in
    let ends = ends_there (zone_at s) from to before c (parts_of s from to path walk).ends in
    in_front h (flat_map (crossing_hops s r v) (marked_crossings s from to)) (flat_map (link_hops s r) (marked_links s from to))
    (in_flat_map (crossing_hops s r v) c h (marked_crossings s from to) (crossing_marked s from to before c [] i)
    (in_if ((router_at p c.leave == r) && (zone_at s c.leave == to)) h (last_hops p v c.leave)
    (and_from (router_at p c.leave == r) (zone_at s c.leave == to) (eq-eqb (router_at p c.leave) r (sym t.router ∙ same)) ends) hop))
marked_by s from r v before c (d ∷ rest) h i same hop =
    let p = s.policy in
    let to = zone_of s v in
    let path = before ++ c ∷ d ∷ rest in
    let l : Link = record { leave = c.leave; enter = d.enter } in
    let walk = is_walk_of s from to path i in
    let t = goes_through s c (crosses s from to path c walk (in_middle before c (d ∷ rest))) in
    in_back h (flat_map (crossing_hops s r v) (marked_crossings s from to)) (flat_map (link_hops s r) (marked_links s from to))
    (in_flat_map (link_hops s r) l h (marked_links s from to) (link_marked s from to before c d rest i)
    (in_if (router_at p c.leave == r) h (hops_over p l) (eq-eqb (router_at p c.leave) r (sym t.router ∙ same))
    (subst (λ (hops : List NextHop). IsIn h hops) (beyond s from v before c d rest walk) hop)))

to_marks : (s : Site) (permits : List Permit) (r v : ℕ) (h : NextHop) → IsIn h (hops_of s permits r v) → IsIn h (marked_hops s permits r v)
to_marks s permits r v h i =
    let w = hop_of_walk s permits r v h i in
    let from = zone_of s w.src in
    in_flat_map (λ u. hops_marked s r v (zone_of s u)) w.src h (filter (λ u. is_used permits u v) (all_nets s.policy))
    (in_filter (λ u. is_used permits u v) w.src (all_nets s.policy) (in_numbers (length s.policy.nets) w.src w.there) w.used)
    (marked_by s from r v w.on.before w.on.at w.on.rest h (subst (λ (path : List Crossing). IsIn path (allowed_walks s from (zone_of s v))) w.on.whole w.walk) w.on.router w.on.hop)

-- ---- from marks to walks

by_crossing : (s : Site) (permits : List Permit) (r u v : ℕ) (before : List Crossing) (c : Crossing) (rest : List Crossing) (h : NextHop) → u < length s.policy.nets → is_used permits u v ≡ true →
    is_allowed_walk s (zone_of s u) (zone_of s v) (before ++ c ∷ rest) ≡ true → (zone_at s c.leave == zone_of s v) ≡ true → router_at s.policy c.leave ≡ r →
    IsIn h (last_hops s.policy v c.leave) → IsIn h (hops_of s permits r v)
by_crossing s permits r u v before c [] h below used walk ends same hop =
    let t = goes_through s c (crosses s (zone_of s u) (zone_of s v) (before ++ c ∷ []) c walk (in_middle before c [])) in
    subst (λ (x : ℕ). IsIn h (hops_of s permits x v)) (t.router ∙ same) (in_hops_of s permits u v before c [] h below used walk hop)
by_crossing s permits r u v before c (d ∷ rest) h below used walk ends same hop =
    let w = parts_of s (zone_of s u) (zone_of s v) (before ++ c ∷ d ∷ rest) walk in
    absurd (goes_beyond (zone_at s) (zone_of s u) (zone_of s v) before c d rest w.ends w.zones_once ends)

by_link : (s : Site) (permits : List Permit) (u v : ℕ) (before : List Crossing) (c d : Crossing) (rest : List Crossing) (h : NextHop) → u < length s.policy.nets → is_used permits u v ≡ true →
    is_allowed_walk s (zone_of s u) (zone_of s v) (before ++ c ∷ d ∷ rest) ≡ true → IsIn h (hops_over s.policy (record { leave = c.leave; enter = d.enter })) →
    IsIn h (hops_of s permits (router_at s.policy c.leave) v)
by_link s permits u v before c d rest h below used walk hop =
    let t = goes_through s c (crosses s (zone_of s u) (zone_of s v) (before ++ c ∷ d ∷ rest) c walk (in_middle before c (d ∷ rest))) in
    subst (λ (x : ℕ). IsIn h (hops_of s permits x v)) t.router
    (in_hops_of s permits u v before c (d ∷ rest) h below used walk (subst (λ (hops : List NextHop). IsIn h hops) (sym (beyond s (zone_of s u) v before c d rest walk)) hop))

from_crossing : (s : Site) (permits : List Permit) (r u v : ℕ) (h : NextHop) → u < length s.policy.nets → is_used permits u v ≡ true → (c : Crossing) →
    IsIn c (marked_crossings s (zone_of s u) (zone_of s v)) → IsIn h (crossing_hops s r v c) → IsIn h (hops_of s permits r v)
from_crossing s permits r u v h below used c i hop =
    let p = s.policy in
    let w = walk_of_crossing s (zone_of s u) (zone_of s v) c i in
    let path : List Crossing = w.0 in
    let on : StandsOn path c = w.2 in
    let t = from_if ((router_at p c.leave == r) && (zone_at s c.leave == zone_of s v)) h (last_hops p v c.leave) hop in
    let e = and_parts (router_at p c.leave == r) (zone_at s c.leave == zone_of s v) t.0 in
    by_crossing s permits r u v on.before c on.rest h below used (subst (λ (q : List Crossing). is_allowed_walk s (zone_of s u) (zone_of s v) q ≡ true) on.whole w.1) e.1
    (eqb-true (router_at p c.leave) r e.0) t.1

from_link : (s : Site) (permits : List Permit) (r u v : ℕ) (h : NextHop) → u < length s.policy.nets → is_used permits u v ≡ true → (l : Link) →
    IsIn l (marked_links s (zone_of s u) (zone_of s v)) → IsIn h (link_hops s r l) → IsIn h (hops_of s permits r v)
from_link s permits r u v h below used l i hop =
    let p = s.policy in
    let w = walk_of_link s (zone_of s u) (zone_of s v) l i in
    let path : List Crossing = w.0 in
    let on : Follows path l = w.2 in
    let t = from_if (router_at p l.leave == r) h (hops_over p l) hop in
    let is : l ≡ record { leave = on.first.leave; enter = on.second.enter } =
    sym (ap (λ (x : ℕ). let k : Link = record { leave = x; enter = on.second.enter } in k) on.leave ∙ ap (λ (x : ℕ). let k : Link = record { leave = l.leave; enter = x } in k) on.enter) in
    subst (λ (x : ℕ). IsIn h (hops_of s permits x v)) (ap (router_at p) on.leave ∙ eqb-true (router_at p l.leave) r t.0)
    (by_link s permits u v on.before on.first on.second on.rest h below used (subst (λ (q : List Crossing). is_allowed_walk s (zone_of s u) (zone_of s v) q ≡ true) on.whole w.1)
    (subst (λ (k : Link). IsIn h (hops_over p k)) is t.1))

from_marks : (s : Site) (permits : List Permit) (r v : ℕ) (h : NextHop) → IsIn h (marked_hops s permits r v) → IsIn h (hops_of s permits r v)
from_marks s permits r v h i =
    let p = s.policy in
    let w = from_flat_map (λ u. hops_marked s r v (zone_of s u)) h (filter (λ u. is_used permits u v) (all_nets p)) i in
    let u : ℕ = w.0 in
    let f = from_filter (λ u. is_used permits u v) u (all_nets p) w.1 in
    let below = from_numbers (length p.nets) u f.0 in
    let crossings = marked_crossings s (zone_of s u) (zone_of s v) in
    let links = marked_links s (zone_of s u) (zone_of s v) in
    ⊎_elim (λ e. let x = from_flat_map (crossing_hops s r v) h crossings e in from_crossing s permits r u v h below f.1 x.0 x.1 x.2)
    (λ e. let x = from_flat_map (link_hops s r) h links e in from_link s permits r u v h below f.1 x.0 x.1 x.2)
    (in_either h (flat_map (crossing_hops s r v) crossings) (flat_map (link_hops s r) links) w.2)

pub marks_give : (s : Site) (permits : List Permit) (r v : ℕ) (h : NextHop) → has_hop (hops_of s permits r v) h ≡ has_hop (marked_hops s permits r v) h
marks_give s permits r v h =
    same_truth (has_hop (hops_of s permits r v) h) (has_hop (marked_hops s permits r v) h)
    (λ t. has_in (marked_hops s permits r v) h (to_marks s permits r v h (in_has (hops_of s permits r v) h t)))
    (λ t. has_in (hops_of s permits r v) h (from_marks s permits r v h (in_has (marked_hops s permits r v) h t)))
