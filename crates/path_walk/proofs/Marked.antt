-- The pairs of all allowed walks are the marks.
use Rattle.std.proofs.Common.{◌≡◌, ℕ, ◌<◌, Bool, true, false, cond, not, ◌&&◌, ◌||◌, List, [], ◌∷◌, length, map, refl, sym, ap, subst, ◌∙◌, ⊎_elim}
use Rattle.std.specs.Prelude.{◌==◌, filter, flat_map}
use Rattle.std.specs.List.{list_any, list_all}
use Rattle.std.proofs.lemmas.Bool.{and_parts, or_cases, eqb-true, eq-eqb, false≢true}
use Rattle.std.proofs.lemmas.List.Folds.{list_any-append}
use Rattle.policy_model.specs.Lists.{pairs_of}
use Rattle.policy_model.specs.Policy.{router_at, is_managed, all_ifaces}
use Rattle.policy_model.specs.Paths.{Crossing, same_crossing, all_steps, is_through_router, crosses_managed}
use Rattle.policy_model.specs.Zones.{Site, zone_at}
use Rattle.policy_model.specs.Walks.{is_crossing, allowed_walks}
use Rattle.policy_model.specs.Marks.{Link, links_on, marked_crossings, marked_links}
use Rattle.policy_model.proofs.Tested.{crossing_below}
use Rattle.policy_model.proofs.AllWalks.{parts_of, some_walk}
use Rattle.path_walk.specs.Pairs.{with_pairs, crossing_pairs, links_after, link_pairs, crossing_at, link_at, all_crossing_pairs, all_link_pairs}
use Rattle.path_walk.proofs.Fronts.{refused, tests_alike}
use Rattle.path_walk.proofs.Prefixes.{crossing_is}
use Rattle.path_walk.proofs.Rows.{filter_narrower}
use Rattle.path_walk.proofs.Ascending.{has_pair, same_pair, kept_pairs}

any_map : {A B : Type 0} (f : B → Bool) (g : A → B) (xs : List A) → list_any f (map g xs) ≡ list_any (λ x. f (g x)) xs
any_map f g [] = refl
any_map f g (x ∷ xs) = ap (λ (b : Bool). f (g x) || b) (any_map f g xs)

-- what is in lists one behind the other
has_flat : (pairs : List Crossing → List (ℕ × ℕ)) (test : List Crossing → Bool) (q : ℕ × ℕ) → ((path : List Crossing) → has_pair (pairs path) q ≡ test path) → (walks : List (List Crossing)) →
    has_pair (flat_map pairs walks) q ≡ list_any test walks
has_flat pairs test q alike [] = refl
has_flat pairs test q alike (w ∷ walks) =
    list_any-append (same_pair q) (pairs w) (flat_map pairs walks)
    ∙ (ap (λ (b : Bool). b || has_pair (flat_map pairs walks) q) (alike w) ∙ ap (λ (b : Bool). test w || b) (has_flat pairs test q alike walks))

filter_map : {A B : Type 0} (keep : B → Bool) (f : A → B) (xs : List A) → filter keep (map f xs) ≡ map f (filter (λ x. keep (f x)) xs)
filter_map keep f [] = refl
filter_map {A} {B} keep f (x ∷ xs) = step (filter_map keep f xs) (keep (f x))
  where
    step : filter keep (map f xs) ≡ map f (filter (λ y. keep (f y)) xs) → (b : Bool) → cond b (f x ∷ filter keep (map f xs)) (filter keep (map f xs)) ≡ map f (cond b (x ∷ filter (λ y. keep (f y)) xs) (filter (λ y. keep (f y)) xs))
    step later true = ap (λ (l : List B). f x ∷ l) later
    step later false = later

managed_below : (s : Site) (c : Crossing) → is_crossing s c ≡ true → (c.enter < length s.policy.ifaces) × (c.leave < length s.policy.ifaces)
managed_below s c h =
    let a = and_parts (crosses_managed s.policy c) (not (zone_at s c.enter == zone_at s c.leave)) h in
    let b = and_parts (is_through_router s.policy c) (is_managed s.policy (router_at s.policy c.enter)) a.0 in
    crossing_below s.policy c b.0

-- ---- crossings

abbrev is_marked : Site → ℕ → ℕ → Crossing → Bool
is_marked s from to c = list_any (λ path. list_any (same_crossing c) path) (allowed_walks s from to)

one_of : (test : Crossing → Bool) (c : Crossing) (path : List Crossing) → list_all test path ≡ true → list_any (same_crossing c) path ≡ true → test c ≡ true
one_of test c [] all h = absurd (false≢true h)
one_of test c (d ∷ path) all h =
    let a = and_parts (test d) (list_all test path) all in
    ⊎_elim (λ e. subst (λ (x : Crossing). test x ≡ true) (sym (crossing_is c d e)) a.0) (λ e. one_of test c path a.1 e) (or_cases (same_crossing c d) (list_any (same_crossing c) path) h)

marked_is_crossing : (s : Site) (from to : ℕ) (c : Crossing) → is_marked s from to c ≡ true → is_crossing s c ≡ true
marked_is_crossing s from to c h =
    let w = (some_walk s from to (λ path. list_any (same_crossing c) path)).0 h in
    one_of (is_crossing s) c w.0 (parts_of s from to w.0 w.1).crossings w.2

pub crossings_are : (s : Site) (from to : ℕ) → map crossing_at (with_pairs [] (all_crossing_pairs (allowed_walks s from to))) ≡ marked_crossings s from to
crossings_are s from to =
    let n = length s.policy.ifaces in
    let m = is_marked s from to in
    let f = λ (q : ℕ × ℕ). m (crossing_at q) in
    ap (λ (l : List (ℕ × ℕ)). map crossing_at l)
    (kept_pairs f n (all_crossing_pairs (allowed_walks s from to))
    (λ q. has_flat crossing_pairs (λ path. list_any (same_crossing (crossing_at q)) path) q (λ path. any_map (same_pair q) (λ (c : Crossing). (c.enter, c.leave)) path) (allowed_walks s from to))
    (λ q h. managed_below s (crossing_at q) (marked_is_crossing s from to (crossing_at q) h)))
    ∙ (sym (filter_map m crossing_at (pairs_of (all_ifaces s.policy) (all_ifaces s.policy)))
    ∙ sym (filter_narrower m (is_crossing s) (all_steps s.policy) (λ c e. refused (m c) (λ h. false≢true (sym e ∙ marked_is_crossing s from to c h)))))

-- ---- links

eq_turned : (a b : ℕ) → (a == b) ≡ (b == a)
eq_turned a b = tests_alike (a == b) (b == a) (λ h. eq-eqb b a (sym (eqb-true a b h))) (λ h. eq-eqb a b (sym (eqb-true b a h)))

link_turned : (q p : ℕ × ℕ) → same_pair q p ≡ ((p.0 == q.0) && (p.1 == q.1))
link_turned q p = ap (λ (b : Bool). b && (q.1 == p.1)) (eq_turned q.0 p.0) ∙ ap (λ (b : Bool). (p.0 == q.0) && b) (eq_turned q.1 p.1)

has_links : (q : ℕ × ℕ) (c : Crossing) (path : List Crossing) → has_pair (links_after c path) q ≡ links_on (c ∷ path) (link_at q)
has_links q c [] = refl
has_links q c (d ∷ path) =
    ap (λ (b : Bool). b || has_pair (links_after d path) q) (link_turned q (c.leave, d.enter)) ∙ ap (λ (b : Bool). ((c.leave == q.0) && (d.enter == q.1)) || b) (has_links q d path)

has_path_links : (q : ℕ × ℕ) (path : List Crossing) → has_pair (link_pairs path) q ≡ links_on path (link_at q)
has_path_links q [] = refl
has_path_links q (c ∷ path) = has_links q c path

link_below : (s : Site) (l : Link) (c : Crossing) (path : List Crossing) → list_all (is_crossing s) (c ∷ path) ≡ true → links_on (c ∷ path) l ≡ true → (l.leave < length s.policy.ifaces) × (l.enter < length s.policy.ifaces)
link_below s l c [] all h = absurd (false≢true h)
link_below s l c (d ∷ path) all h =
    let a = and_parts (is_crossing s c) (list_all (is_crossing s) (d ∷ path)) all in
    let b = and_parts (is_crossing s d) (list_all (is_crossing s) path) a.1 in
    ⊎_elim
    (λ e.
    let t = and_parts (c.leave == l.leave) (d.enter == l.enter) e in
    (subst (λ (x : ℕ). x < length s.policy.ifaces) (eqb-true c.leave l.leave t.0) (managed_below s c a.0).1, subst (λ (x : ℕ). x < length s.policy.ifaces) (eqb-true d.enter l.enter t.1) (managed_below s d b.0).0))
    (λ e. link_below s l d path a.1 e) (or_cases ((c.leave == l.leave) && (d.enter == l.enter)) (links_on (d ∷ path) l) h)

path_link_below : (s : Site) (l : Link) (path : List Crossing) → list_all (is_crossing s) path ≡ true → links_on path l ≡ true → (l.leave < length s.policy.ifaces) × (l.enter < length s.policy.ifaces)
path_link_below s l [] all h = absurd (false≢true h)
path_link_below s l (c ∷ path) all h = link_below s l c path all h

pub links_are : (s : Site) (from to : ℕ) → map link_at (with_pairs [] (all_link_pairs (allowed_walks s from to))) ≡ marked_links s from to
links_are s from to =
    let n = length s.policy.ifaces in
    let m = λ (l : Link). list_any (λ path. links_on path l) (allowed_walks s from to) in
    let f = λ (q : ℕ × ℕ). m (link_at q) in
    ap (λ (l : List (ℕ × ℕ)). map link_at l)
    (kept_pairs f n (all_link_pairs (allowed_walks s from to))
    (λ q. has_flat link_pairs (λ path. links_on path (link_at q)) q (has_path_links q) (allowed_walks s from to))
    (λ q h.
    let w = (some_walk s from to (λ path. links_on path (link_at q))).0 h in
    path_link_below s (link_at q) w.0 (parts_of s from to w.0 w.1).crossings w.2))
    ∙ sym (filter_map m link_at (pairs_of (all_ifaces s.policy) (all_ifaces s.policy)))

-- ---- the table

-- from pairs that were put into nothing
pub crossings_told : (s : Site) (from to : ℕ) (none keys : List (ℕ × ℕ)) → none ≡ [] → keys ≡ with_pairs none (all_crossing_pairs (allowed_walks s from to)) → map crossing_at keys ≡ marked_crossings s from to
crossings_told s from to none keys e f =
    ap (λ (l : List (ℕ × ℕ)). map crossing_at l) (f ∙ ap (λ (l : List (ℕ × ℕ)). with_pairs l (all_crossing_pairs (allowed_walks s from to))) e) ∙ crossings_are s from to

pub links_told : (s : Site) (from to : ℕ) (none keys : List (ℕ × ℕ)) → none ≡ [] → keys ≡ with_pairs none (all_link_pairs (allowed_walks s from to)) → map link_at keys ≡ marked_links s from to
links_told s from to none keys e f =
    ap (λ (l : List (ℕ × ℕ)). map link_at l) (f ∙ ap (λ (l : List (ℕ × ℕ)). with_pairs l (all_link_pairs (allowed_walks s from to))) e) ∙ links_are s from to
