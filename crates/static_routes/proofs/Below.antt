-- The interfaces of marks are there.
use Rattle.std.proofs.Common.{◌≡◌, ℕ, ◌<◌, List, [], ◌∷◌, ◌++◌, length, map, refl, sym, subst, inl, inr}
use Rattle.std.specs.List.{All, AllByRecursion}
use Rattle.std.proofs.lemmas.List.Elements.{All-from_recursion}
use Rattle.policy_model.specs.Paths as plain
use Rattle.policy_model.specs.Marks as marks
use Rattle.policy_model.specs.Marks.{marked_crossings, marked_links}
use Rattle.policy_model.specs.Zones.{Site}
use Rattle.policy_model.proofs.AllWalks.{IsIn}
use Rattle.zone_graph.specs.declared.marks.Crossing.{Crossing}
use Rattle.zone_graph.specs.declared.marks.Link.{Link}
use Rattle.path_walk.specs.Seen.{crossing_seen, link_seen}
use Rattle.route_laws.proofs.Walked.{StandsOn, Follows, in_middle, crosses, goes_through, walk_of_crossing, walk_of_link}
use Rattle.static_routes.specs.Chains.{LeaveBelow, LinksBelow}

second : {A : Type 0} (front : List A) (c d : A) (rest : List A) → IsIn d (front ++ c ∷ d ∷ rest)
second [] c d rest = inr (inl refl)
second (b ∷ front) c d rest = inr (second front c d rest)

crossing_leaves : (s : Site) (from to : ℕ) (c : plain.Crossing) → IsIn c (marked_crossings s from to) → c.leave < length s.policy.ifaces
crossing_leaves s from to c i =
    let w = walk_of_crossing s from to c i in
    let on : StandsOn w.0 c = w.2 in
    (goes_through s c (crosses s from to w.0 c w.1 (subst (λ (path : List plain.Crossing). IsIn c path) (sym on.whole) (in_middle on.before c on.rest)))).leave

link_joins : (s : Site) (from to : ℕ) (l : marks.Link) → IsIn l (marked_links s from to) → (l.leave < length s.policy.ifaces) × (l.enter < length s.policy.ifaces)
link_joins s from to l i =
    let w = walk_of_link s from to l i in
    let on : Follows w.0 l = w.2 in
    let first = crosses s from to w.0 on.first w.1 (subst (λ (path : List plain.Crossing). IsIn on.first path) (sym on.whole) (in_middle on.before on.first (on.second ∷ on.rest))) in
    let next = crosses s from to w.0 on.second w.1 (subst (λ (path : List plain.Crossing). IsIn on.second path) (sym on.whole) (second on.before on.first on.second on.rest)) in
    (subst (λ (n : ℕ). n < length s.policy.ifaces) on.leave (goes_through s on.first first).leave, subst (λ (n : ℕ). n < length s.policy.ifaces) on.enter (goes_through s on.second next).enter)

all_from_map : {A B : Type 0} (f : A → B) (P : B → Type 0) (xs : List A) → ((y : B) → IsIn y (map f xs) → P y) → All (λ x. P (f x)) xs
all_from_map {A} {B} f P xs each = All-from_recursion (λ x. P (f x)) xs (go xs each)
  where
    go : (ys : List A) → ((y : B) → IsIn y (map f ys) → P y) → AllByRecursion (λ x. P (f x)) ys
    go [] each = tt
    go (y ∷ ys) each = (each (f y) (inl refl), go ys (λ z i. each z (inr i)))

pub leave_below : (s : Site) (from to : ℕ) (cs : List Crossing) → map crossing_seen cs ≡ marked_crossings s from to → LeaveBelow s.policy cs
leave_below s from to cs e =
    all_from_map crossing_seen (λ c. c.leave < length s.policy.ifaces) cs (λ c i. crossing_leaves s from to c (subst (λ (l : List plain.Crossing). IsIn c l) e i))

pub links_below : (s : Site) (from to : ℕ) (ls : List Link) → map link_seen ls ≡ marked_links s from to → LinksBelow s.policy ls
links_below s from to ls e =
    all_from_map link_seen (λ l. (l.leave < length s.policy.ifaces) × (l.enter < length s.policy.ifaces)) ls (λ l i. link_joins s from to l (subst (λ (k : List marks.Link). IsIn l k) e i))
