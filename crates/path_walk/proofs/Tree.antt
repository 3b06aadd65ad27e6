-- The walks that begin with a path: itself, or those that go on by one crossing.
use Rattle.std.proofs.Common.{◌≡◌, ℕ, zero, suc, ◌+◌, ◌-◌, ◌≤◌, Bool, true, false, not, cond, ◌&&◌, List, [], ◌∷◌, ◌++◌, length, map, refl, sym, ap, subst, ◌∙◌, arith}
use Rattle.std.specs.Prelude.{◌==◌, filter, flat_map, nat_lt}
use Rattle.std.proofs.lemmas.List.{append-nil, append_assoc, length-append}
use Rattle.std.proofs.lemmas.Bool.{and_parts, and_from, eqb-true, eq-eqb, false≢true, not_from_true}
use Rattle.std.proofs.lemmas.List.Elements.{filter_agree}
use Rattle.policy_model.specs.Lists.{lists_up_to}
use Rattle.policy_model.specs.Policy.{router_at, is_managed, all_ifaces}
use Rattle.policy_model.specs.Paths.{Crossing, all_steps, is_through_router, crosses_managed}
use Rattle.policy_model.specs.Zones.{Site, zone_at}
use Rattle.policy_model.specs.Walks.{is_crossing, is_allowed_walk, all_crossings}
use Rattle.policy_model.proofs.AllWalks.{no_longer, parts_of}
use Rattle.path_walk.specs.Search.{end_of, may_begin, goes_on, walks_on, doors_in, most_of, step_of, by_door}
use Rattle.path_walk.proofs.Rows.{flat_map_kept, filter_kept, filter_narrower, filter_flat, map_twice, map_same, flat_map_same, flat_map_none, filter_none}
use Rattle.path_walk.proofs.Fronts.{refused, beginning_of, walk_begins, walk_ends, walk_stops, walk_by, going_on, goes_on_is}

-- a path that no walk begins with
pub no_walks : (s : Site) (from to n : ℕ) (path : List Crossing) → may_begin s from path ≡ false → walks_on s from to n path ≡ []
no_walks s from to n path h =
    filter_none (is_allowed_walk s from to) (λ more. path ++ more) (lists_up_to n (all_crossings s))
    (λ more. refused (is_allowed_walk s from to (path ++ more)) (λ e. false≢true (sym h ∙ walk_begins s from to path more e)))

-- the longer lists
longer : ℕ → List Crossing → List (List Crossing)
longer zero xs = []
longer (suc n) xs = flat_map (λ x. map (λ ys. x ∷ ys) (lists_up_to n xs)) xs

none_longer : (s : Site) (from to n : ℕ) (path xs : List Crossing) → ((c : Crossing) (more : List Crossing) → is_allowed_walk s from to (path ++ c ∷ more) ≡ true → ⊥) →
    filter (is_allowed_walk s from to) (map (λ more. path ++ more) (flat_map (λ x. map (λ ys. x ∷ ys) (lists_up_to n xs)) xs)) ≡ []
none_longer s from to n path xs gone =
    filter_flat (is_allowed_walk s from to) (λ more. path ++ more) (λ x. map (λ ys. x ∷ ys) (lists_up_to n xs)) xs
    ∙ flat_map_none (λ x. filter (is_allowed_walk s from to) (map (λ more. path ++ more) (map (λ ys. x ∷ ys) (lists_up_to n xs)))) xs
    (λ x. ap (λ l. filter (is_allowed_walk s from to) l) (map_twice (λ more. path ++ more) (λ ys. x ∷ ys) (lists_up_to n xs))
    ∙ filter_none (is_allowed_walk s from to) (λ ys. path ++ x ∷ ys) (lists_up_to n xs) (λ ys. refused (is_allowed_walk s from to (path ++ x ∷ ys)) (gone x ys)))

-- the path itself, where it leads to the end
pub arrived : (s : Site) (from to n : ℕ) (path : List Crossing) → not (from == to) ≡ true → may_begin s from path ≡ true → end_of s from path ≡ to → walks_on s from to n path ≡ path ∷ []
arrived s from to zero path other h e =
    ap (λ (l : List Crossing). cond (is_allowed_walk s from to l) (l ∷ []) []) (append-nil path)
    ∙ ap (λ (b : Bool). cond b (path ∷ []) []) (walk_by s from to path other h e)
arrived s from to (suc n) path other h e =
    let xs = all_crossings s in
    let rest = filter (is_allowed_walk s from to) (map (λ more. path ++ more) (flat_map (λ x. map (λ ys. x ∷ ys) (lists_up_to n xs)) xs)) in
    ap (λ (l : List Crossing). cond (is_allowed_walk s from to l) (l ∷ rest) rest) (append-nil path)
    ∙ (ap (λ (b : Bool). cond b (path ∷ rest) rest) (walk_by s from to path other h e)
    ∙ ap (λ (l : List (List Crossing)). path ∷ l) (none_longer s from to n path xs (λ c more. walk_stops s from to path c more e)))

-- none that goes on from there
pub none_past : (s : Site) (from to n : ℕ) (path : List Crossing) (c : Crossing) → end_of s from path ≡ to → walks_on s from to n (path ++ c ∷ []) ≡ []
none_past s from to n path c e =
    filter_none (is_allowed_walk s from to) (λ more. (path ++ c ∷ []) ++ more) (lists_up_to n (all_crossings s))
    (λ more. refused (is_allowed_walk s from to ((path ++ c ∷ []) ++ more))
    (λ h. walk_stops s from to path c more e (subst (λ (l : List Crossing). is_allowed_walk s from to l ≡ true) (append_assoc path (c ∷ []) more) h)))

not_there : (s : Site) (from to : ℕ) (path : List Crossing) → (end_of s from path ≡ to → ⊥) → is_allowed_walk s from to (path ++ []) ≡ false
not_there s from to path away = refused (is_allowed_walk s from to (path ++ [])) (λ h. away (walk_ends s from to path (subst (λ (l : List Crossing). is_allowed_walk s from to l ≡ true) (append-nil path) h)))

-- those that go on by a crossing, elsewhere
onward : (s : Site) (from to n : ℕ) (path : List Crossing) → (end_of s from path ≡ to → ⊥) →
    walks_on s from to (suc n) path ≡ flat_map (λ c. walks_on s from to n (path ++ c ∷ [])) (all_crossings s)
onward s from to n path away =
    let xs = all_crossings s in
    let f = is_allowed_walk s from to in
    let rest = filter f (map (λ more. path ++ more) (flat_map (λ x. map (λ ys. x ∷ ys) (lists_up_to n xs)) xs)) in
    ap (λ (b : Bool). cond b ((path ++ []) ∷ rest) rest) (not_there s from to path away)
    ∙ (filter_flat f (λ more. path ++ more) (λ x. map (λ ys. x ∷ ys) (lists_up_to n xs)) xs
    ∙ flat_map_same (λ x. filter f (map (λ more. path ++ more) (map (λ ys. x ∷ ys) (lists_up_to n xs)))) (λ c. walks_on s from to n (path ++ c ∷ [])) xs
    (λ x. ap (λ l. filter f l) (map_twice (λ more. path ++ more) (λ ys. x ∷ ys) (lists_up_to n xs)
    ∙ map_same (λ ys. path ++ x ∷ ys) (λ more. (path ++ x ∷ []) ++ more) (lists_up_to n xs) (λ ys. sym (append_assoc path (x ∷ []) ys)))))

pub length_within : (s : Site) (from : ℕ) (path : List Crossing) → may_begin s from path ≡ true → length path ≤ most_of s
length_within s from path h = let b = beginning_of s from path h in no_longer s path b.crossings b.routers_once

none_beyond : (s : Site) (from : ℕ) (path : List Crossing) → most_of s ≤ length path → (c : Crossing) → may_begin s from (path ++ c ∷ []) ≡ false
none_beyond s from path full c =
    refused (may_begin s from (path ++ c ∷ [])) (λ h. absurd (omega (arith, length_within s from (path ++ c ∷ []) h, length-append path (c ∷ []), full)))

pub filter_nothing : {A : Type 0} (keep : A → Bool) (xs : List A) → ((x : A) → keep x ≡ false) → filter keep xs ≡ []
filter_nothing keep [] gone = refl
filter_nothing keep (x ∷ xs) gone = ap (λ (b : Bool). cond b (x ∷ filter keep xs) (filter keep xs)) (gone x) ∙ filter_nothing keep xs gone

-- only by crossings with which a walk may begin
pub onward_kept : (s : Site) (from to n : ℕ) (path : List Crossing) → (end_of s from path ≡ to → ⊥) → length path + n ≡ most_of s →
    walks_on s from to n path ≡ flat_map (λ c. walks_on s from to (n - 1) (path ++ c ∷ [])) (filter (λ c. may_begin s from (path ++ c ∷ [])) (all_crossings s))
onward_kept s from to zero path away sum =
    ap (λ (b : Bool). cond b ((path ++ []) ∷ []) []) (not_there s from to path away)
    ∙ sym (ap (λ (l : List Crossing). flat_map (λ c. walks_on s from to (0 - 1) (path ++ c ∷ [])) l)
    (filter_nothing (λ c. may_begin s from (path ++ c ∷ [])) (all_crossings s) (none_beyond s from path (omega (arith, sum)))))
onward_kept s from to (suc n) path away sum =
    let less : n ≡ suc n - 1 = omega arith in
    subst (λ (k : ℕ). walks_on s from to (suc n) path ≡ flat_map (λ c. walks_on s from to k (path ++ c ∷ [])) (filter (λ c. may_begin s from (path ++ c ∷ [])) (all_crossings s))) less
    (onward s from to n path away
    ∙ sym (flat_map_kept (λ c. walks_on s from to n (path ++ c ∷ [])) (λ c. may_begin s from (path ++ c ∷ [])) (all_crossings s) (λ c. no_walks s from to n (path ++ c ∷ []))))

-- nothing leads from a zone to itself
pub none_home : (s : Site) (from to n : ℕ) (path : List Crossing) → from ≡ to → walks_on s from to n path ≡ []
none_home s from to n path e =
    filter_none (is_allowed_walk s from to) (λ more. path ++ more) (lists_up_to n (all_crossings s))
    (λ more. refused (is_allowed_walk s from to (path ++ more)) (λ h. absurd (false≢true (sym (not_from_true (from == to) (eq-eqb from to e)) ∙ (parts_of s from to (path ++ more) h).elsewhere))))

-- ---- the crossings that go on, door by door

other_router : (s : Site) (from : ℕ) (path : List Crossing) (e l : ℕ) → (router_at s.policy l == router_at s.policy e) ≡ false → goes_on s from path (step_of e l) ≡ false
other_router s from path e l h =
    refused (goes_on s from path (step_of e l)) (λ g.
    let w = crossing_parts s (step_of e l) (going_on s from path (step_of e l) g).crossing in
    false≢true (sym h ∙ eq-eqb (router_at s.policy l) (router_at s.policy e) (sym w.0)))
  where
    crossing_parts : (t : Site) (c : Crossing) → is_crossing t c ≡ true → (router_at t.policy c.enter ≡ router_at t.policy c.leave) × (is_managed t.policy (router_at t.policy c.enter) ≡ true)
    crossing_parts t c h =
        let a = and_parts (crosses_managed t.policy c) (not (zone_at t c.enter == zone_at t c.leave)) h in
        let b = and_parts (is_through_router t.policy c) (is_managed t.policy (router_at t.policy c.enter)) a.0 in
        let d = and_parts (nat_lt c.enter (length t.policy.ifaces) && nat_lt c.leave (length t.policy.ifaces)) (router_at t.policy c.enter == router_at t.policy c.leave) b.0 in
        (eqb-true (router_at t.policy c.enter) (router_at t.policy c.leave) d.1, b.1)

no_door : (s : Site) (from : ℕ) (path : List Crossing) (e : ℕ) → (is_managed s.policy (router_at s.policy e) && (zone_at s e == end_of s from path)) ≡ false →
    (l : ℕ) → goes_on s from path (step_of e l) ≡ false
no_door s from path e h l =
    refused (goes_on s from path (step_of e l)) (λ g.
    let w = going_on s from path (step_of e l) g in
    let a = and_parts (crosses_managed s.policy (step_of e l)) (not (zone_at s e == zone_at s l)) w.crossing in
    let b = and_parts (is_through_router s.policy (step_of e l)) (is_managed s.policy (router_at s.policy e)) a.0 in
    false≢true (sym h ∙ and_from (is_managed s.policy (router_at s.policy e)) (zone_at s e == end_of s from path) b.1 (eq-eqb (zone_at s e) (end_of s from path) w.here)))

-- what goes on at the doors of the zone in which the path ends is all that does
pub doors_are_all : (s : Site) (from : ℕ) (path : List Crossing) →
    flat_map (by_door s from path) (doors_in s (end_of s from path)) ≡ filter (goes_on s from path) (all_crossings s)
doors_are_all s from path =
    let all = all_ifaces s.policy in
    let g = goes_on s from path in
    let mk = λ (e : ℕ × ℕ). step_of e.0 e.1 in
    let row = λ (e : ℕ). filter g (map (step_of e) all) in
    flat_map_same (by_door s from path) row (doors_in s (end_of s from path)) (λ e. filter_kept g (step_of e) (λ l. router_at s.policy l == router_at s.policy e) all (other_router s from path e))
    ∙ (flat_map_kept row (λ e. is_managed s.policy (router_at s.policy e) && (zone_at s e == end_of s from path)) all (λ e h. filter_none g (step_of e) all (no_door s from path e h))
    ∙ (flat_map_same row (λ e. filter g (map mk (map (λ l. (e, l)) all))) all (λ e. sym (ap (λ l. filter g l) (map_twice mk (λ (l : ℕ). (e, l)) all)))
    ∙ (sym (filter_flat g mk (λ e. map (λ l. (e, l)) all) all)
    ∙ sym (filter_narrower g (is_crossing s) (all_steps s.policy) (λ c h. refused (g c) (λ e. false≢true (sym h ∙ (going_on s from path c e).crossing)))))))

-- so the walks that begin with the path go on by these
pub onward_by_doors : (s : Site) (from to n : ℕ) (path : List Crossing) → may_begin s from path ≡ true → (end_of s from path ≡ to → ⊥) → length path + n ≡ most_of s →
    walks_on s from to n path ≡ flat_map (λ c. walks_on s from to (n - 1) (path ++ c ∷ [])) (filter (goes_on s from path) (all_crossings s))
onward_by_doors s from to n path h away sum =
    onward_kept s from to n path away sum
    ∙ ap (λ (l : List Crossing). flat_map (λ c. walks_on s from to (n - 1) (path ++ c ∷ [])) l)
    (filter_agree (λ c. may_begin s from (path ++ c ∷ [])) (goes_on s from path) (λ c. sym (goes_on_is s from path c h)) (all_crossings s))
