-- What marks say of walks: a marked crossing and a marked link stand on one.
use Rattle.std.proofs.Common.{◌≡◌, ℕ, ◌<◌, inl, inr, true, false, not, ◌&&◌, List, [], ◌∷◌, ◌++◌, length, map, refl, sym, ap, subst, ◌∙◌, ⊎_elim}
use Rattle.std.specs.Prelude.{◌==◌}
use Rattle.std.specs.List.{list_any}
use Rattle.std.proofs.lemmas.Bool.{and_parts, and_from, or_cases, or_left, or_right, eqb-true, eq-eqb, false≢true, not-true}
use Rattle.policy_model.specs.Lists.{has, are_distinct, pairs_of}
use Rattle.policy_model.specs.Policy.{Policy, router_at, is_managed, all_ifaces}
use Rattle.policy_model.specs.Paths.{Crossing, all_steps, same_crossing, leads, places_on, is_through_router, crosses_managed}
use Rattle.policy_model.specs.Zones.{Site, zone_at}
use Rattle.policy_model.specs.Walks.{is_crossing, is_allowed_walk, all_crossings, all_paths, allowed_walks}
use Rattle.policy_model.specs.Marks.{Link, links_on, marked_crossings, marked_links}
use Rattle.policy_model.proofs.Tested.{crossing_below}
use Rattle.policy_model.proofs.AllWalks.{IsIn, in_map, in_pairs, in_numbers, in_filter, parts_of}
use Rattle.list_laws.proofs.Members.{some_in, some_of, from_filter, each_in}

-- ---- the end of a walk

-- a path leads where its last crossing leaves
pub ends_there : (at : ℕ → ℕ) (from to : ℕ) (before : List Crossing) (c : Crossing) → leads at from (before ++ c ∷ []) to ≡ true → (at c.leave == to) ≡ true
ends_there at from to [] c h = (and_parts (at c.enter == from) (at c.leave == to) h).1
ends_there at from to (b ∷ before) c h = ends_there at (at b.leave) to before c (and_parts (at b.enter == from) (leads at (at b.leave) (before ++ c ∷ []) to) h).1

has_end : (at : ℕ → ℕ) (from to : ℕ) (path : List Crossing) → leads at from path to ≡ true → has (places_on at from path) to ≡ true
has_end at from to [] h = or_left (from == to) false h
has_end at from to (c ∷ path) h =
    or_right (from == to) (has (places_on at (at c.leave) path) to) (has_end at (at c.leave) to path (and_parts (at c.enter == from) (leads at (at c.leave) path to) h).1)

-- and passes no place twice: so no earlier crossing leaves to where it leads
pub goes_beyond : (at : ℕ → ℕ) (from to : ℕ) (before : List Crossing) (c d : Crossing) (rest : List Crossing) → leads at from (before ++ c ∷ d ∷ rest) to ≡ true →
    are_distinct (places_on at from (before ++ c ∷ d ∷ rest)) ≡ true → (at c.leave == to) ≡ true → ⊥
goes_beyond at from to [] c d rest h once e =
    let a = and_parts (at c.enter == from) (leads at (at c.leave) (d ∷ rest) to) h in
    let b = and_parts (at d.enter == at c.leave) (leads at (at d.leave) rest to) a.1 in
    let o = and_parts (not (has (places_on at (at c.leave) (d ∷ rest)) from)) (are_distinct (places_on at (at c.leave) (d ∷ rest))) once in
    let q = and_parts (not (has (places_on at (at d.leave) rest) (at c.leave))) (are_distinct (places_on at (at d.leave) rest)) o.1 in
    let there = has_end at (at d.leave) to rest b.1 in
    false≢true (sym (not-true (has (places_on at (at d.leave) rest) (at c.leave)) q.0) ∙ subst (λ (z : ℕ). has (places_on at (at d.leave) rest) z ≡ true) (sym (eqb-true (at c.leave) to e)) there)
goes_beyond at from to (b ∷ before) c d rest h once e =
    goes_beyond at (at b.leave) to before c d rest (and_parts (at b.enter == from) (leads at (at b.leave) (before ++ c ∷ d ∷ rest) to) h).1
    (and_parts (not (has (places_on at (at b.leave) (before ++ c ∷ d ∷ rest)) from)) (are_distinct (places_on at (at b.leave) (before ++ c ∷ d ∷ rest))) once).1 e

-- ---- where things stand on a path

-- a path that has a crossing is what comes before it, the crossing, and the rest
pub record StandsOn (path : List Crossing) (c : Crossing) : Type 0 where
  pub before : List Crossing
  pub rest : List Crossing
  pub whole : path ≡ before ++ c ∷ rest

same_crossing_true : (c d : Crossing) → same_crossing c d ≡ true → c ≡ d
same_crossing_true c d h =
    let w = and_parts (c.enter == d.enter) (c.leave == d.leave) h in
    ap (λ e. let x : Crossing = record { enter = e; leave = c.leave } in x) (eqb-true c.enter d.enter w.0)
    ∙ ap (λ l. let x : Crossing = record { enter = d.enter; leave = l } in x) (eqb-true c.leave d.leave w.1)

same_crossing_self : (c : Crossing) → same_crossing c c ≡ true
same_crossing_self c = and_from (c.enter == c.enter) (c.leave == c.leave) (eq-eqb c.enter c.enter refl) (eq-eqb c.leave c.leave refl)

pub stands_on : (path : List Crossing) (c : Crossing) → list_any (same_crossing c) path ≡ true → StandsOn path c
stands_on [] c h = absurd (false≢true h)
stands_on (d ∷ path) c h =
    ⊎_elim (λ e. record { before = []; rest = path; whole = ap (λ x. x ∷ path) (sym (same_crossing_true c d e)) })
    (λ e. let w = stands_on path c e in record { before = d ∷ w.before; rest = w.rest; whole = ap (λ xs. d ∷ xs) w.whole })
    (or_cases (same_crossing c d) (list_any (same_crossing c) path) h)

on_path : (before : List Crossing) (c : Crossing) (rest : List Crossing) → list_any (same_crossing c) (before ++ c ∷ rest) ≡ true
on_path [] c rest = or_left (same_crossing c c) (list_any (same_crossing c) rest) (same_crossing_self c)
on_path (b ∷ before) c rest = or_right (same_crossing c b) (list_any (same_crossing c) (before ++ c ∷ rest)) (on_path before c rest)

-- a path that has a link is what comes before it, its two crossings, and the rest
pub record Follows (path : List Crossing) (l : Link) : Type 0 where
  pub before : List Crossing
  pub first : Crossing
  pub second : Crossing
  pub rest : List Crossing
  pub whole : path ≡ before ++ first ∷ second ∷ rest
  pub leave : first.leave ≡ l.leave
  pub enter : second.enter ≡ l.enter

pub follows : (path : List Crossing) (l : Link) → links_on path l ≡ true → Follows path l
follows [] l h = absurd (false≢true h)
follows (c ∷ []) l h = absurd (false≢true h)
follows (c ∷ d ∷ path) l h =
    ⊎_elim
    (λ e. let w = and_parts (c.leave == l.leave) (d.enter == l.enter) e in
    record { before = []; first = c; second = d; rest = path; whole = refl; leave = eqb-true c.leave l.leave w.0; enter = eqb-true d.enter l.enter w.1 })
    (λ e. let w = follows (d ∷ path) l e in
    record { before = c ∷ w.before; first = w.first; second = w.second; rest = w.rest; whole = ap (λ xs. c ∷ xs) w.whole; leave = w.leave; enter = w.enter })
    (or_cases ((c.leave == l.leave) && (d.enter == l.enter)) (links_on (d ∷ path) l) h)

link_there : (before : List Crossing) (c d : Crossing) (rest : List Crossing) → links_on (before ++ c ∷ d ∷ rest) (record { leave = c.leave; enter = d.enter }) ≡ true
link_there [] c d rest =
    let l : Link = record { leave = c.leave; enter = d.enter } in
    or_left ((c.leave == l.leave) && (d.enter == l.enter)) (links_on (d ∷ rest) l)
    (and_from (c.leave == l.leave) (d.enter == l.enter) (eq-eqb c.leave c.leave refl) (eq-eqb d.enter d.enter refl))
link_there (b ∷ []) c d rest =
    let l : Link = record { leave = c.leave; enter = d.enter } in
    or_right ((b.leave == l.leave) && (c.enter == l.enter)) (links_on (c ∷ d ∷ rest) l) (link_there [] c d rest)
link_there (b ∷ a ∷ before) c d rest =
    let l : Link = record { leave = c.leave; enter = d.enter } in
    or_right ((b.leave == l.leave) && (a.enter == l.enter)) (links_on (a ∷ (before ++ c ∷ d ∷ rest)) l) (link_there (a ∷ before) c d rest)

-- ---- crossings on an allowed walk

pub in_middle : {A : Type 0} (before : List A) (x : A) (rest : List A) → IsIn x (before ++ x ∷ rest)
in_middle [] x rest = inl refl
in_middle (b ∷ before) x rest = inr (in_middle before x rest)

pub crosses : (s : Site) (from to : ℕ) (path : List Crossing) (c : Crossing) → is_allowed_walk s from to path ≡ true → IsIn c path → is_crossing s c ≡ true
crosses s from to path c walk i = each_in (is_crossing s) path (parts_of s from to path walk).crossings c i

-- the two interfaces of a crossing are there, and of one router
pub record IsThrough (p : Policy) (c : Crossing) : Type 0 where
  pub enter : c.enter < length p.ifaces
  pub leave : c.leave < length p.ifaces
  pub router : router_at p c.enter ≡ router_at p c.leave

pub goes_through : (s : Site) (c : Crossing) → is_crossing s c ≡ true → IsThrough s.policy c
goes_through s c h =
    let p = s.policy in
    let a = and_parts (crosses_managed p c) (not (zone_at s c.enter == zone_at s c.leave)) h in
    let b = and_parts (is_through_router p c) (is_managed p (router_at p c.enter)) a.0 in
    let d = crossing_below p c b.0 in
    let e = and_parts _ (router_at p c.enter == router_at p c.leave) b.0 in
    record { enter = d.0; leave = d.1; router = eqb-true (router_at p c.enter) (router_at p c.leave) e.1 }

-- ---- marks

in_steps : (p : Policy) (c : Crossing) → c.enter < length p.ifaces → c.leave < length p.ifaces → IsIn c (all_steps p)
in_steps p c enter leave =
    let n = length p.ifaces in
    in_map (λ (e : ℕ × ℕ). let x : Crossing = record { enter = e.0; leave = e.1 } in x) (c.enter, c.leave) (pairs_of (all_ifaces p) (all_ifaces p))
    (in_pairs c.enter c.leave (all_ifaces p) (all_ifaces p) (in_numbers n c.enter enter) (in_numbers n c.leave leave))

pub is_walk_of : (s : Site) (from to : ℕ) (path : List Crossing) → IsIn path (allowed_walks s from to) → is_allowed_walk s from to path ≡ true
is_walk_of s from to path i = (from_filter (is_allowed_walk s from to) path (all_paths s) i).1

-- each crossing of an allowed walk is marked
pub crossing_marked : (s : Site) (from to : ℕ) (before : List Crossing) (c : Crossing) (rest : List Crossing) → IsIn (before ++ c ∷ rest) (allowed_walks s from to) →
    IsIn c (marked_crossings s from to)
crossing_marked s from to before c rest i =
    let path = before ++ c ∷ rest in
    let is = crosses s from to path c (is_walk_of s from to path i) (in_middle before c rest) in
    let t = goes_through s c is in
    in_filter (λ c. list_any (λ path. list_any (same_crossing c) path) (allowed_walks s from to)) c (all_crossings s)
    (in_filter (is_crossing s) c (all_steps s.policy) (in_steps s.policy c t.enter t.leave) is)
    (some_of (λ path. list_any (same_crossing c) path) path (allowed_walks s from to) i (on_path before c rest))

-- and each link
pub link_marked : (s : Site) (from to : ℕ) (before : List Crossing) (c d : Crossing) (rest : List Crossing) → IsIn (before ++ c ∷ d ∷ rest) (allowed_walks s from to) →
    IsIn (record { leave = c.leave; enter = d.enter }) (marked_links s from to)
link_marked s from to before c d rest i =
    let path = before ++ c ∷ d ∷ rest in
    let l : Link = record { leave = c.leave; enter = d.enter } in
    let n = length s.policy.ifaces in
    let walk = is_walk_of s from to path i in
    let t = goes_through s c (crosses s from to path c walk (in_middle before c (d ∷ rest))) in
    let later : IsIn d path = second before in
    let u = goes_through s d (crosses s from to path d walk later) in
    in_filter (λ l. list_any (λ path. links_on path l) (allowed_walks s from to)) l (map (λ (e : ℕ × ℕ). let x : Link = record { leave = e.0; enter = e.1 } in x) (pairs_of (all_ifaces s.policy) (all_ifaces s.policy)))
    (in_map (λ (e : ℕ × ℕ). let x : Link = record { leave = e.0; enter = e.1 } in x) (c.leave, d.enter) (pairs_of (all_ifaces s.policy) (all_ifaces s.policy))
    (in_pairs c.leave d.enter (all_ifaces s.policy) (all_ifaces s.policy) (in_numbers n c.leave t.leave) (in_numbers n d.enter u.enter)))
    (some_of (λ path. links_on path l) path (allowed_walks s from to) i (link_there before c d rest))
  where
    second : (front : List Crossing) → IsIn d (front ++ c ∷ d ∷ rest)
    second [] = inr (inl refl)
    second (b ∷ front) = inr (second front)

-- a marked crossing stands on an allowed walk
pub walk_of_crossing : (s : Site) (from to : ℕ) (c : Crossing) → IsIn c (marked_crossings s from to) →
    (path : List Crossing) × (is_allowed_walk s from to path ≡ true) × StandsOn path c
walk_of_crossing s from to c i =
    let f = from_filter (λ c. list_any (λ path. list_any (same_crossing c) path) (allowed_walks s from to)) c (all_crossings s) i in
    let w = some_in (λ path. list_any (same_crossing c) path) (allowed_walks s from to) f.1 in
    (w.0, is_walk_of s from to w.0 w.1, stands_on w.0 c w.2)

-- and a marked link
pub walk_of_link : (s : Site) (from to : ℕ) (l : Link) → IsIn l (marked_links s from to) → (path : List Crossing) × (is_allowed_walk s from to path ≡ true) × Follows path l
walk_of_link s from to l i =
    let f = from_filter (λ l. list_any (λ path. links_on path l) (allowed_walks s from to)) l
    (map (λ (e : ℕ × ℕ). let x : Link = record { leave = e.0; enter = e.1 } in x) (pairs_of (all_ifaces s.policy) (all_ifaces s.policy))) i in
    let w = some_in (λ path. links_on path l) (allowed_walks s from to) f.1 in
    (w.0, is_walk_of s from to w.0 w.1, follows w.0 l w.2)
