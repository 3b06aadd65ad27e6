-- Which allowed walks begin with a path.
use Rattle.std.proofs.Common.{◌≡◌, ℕ, ◌+◌, ◌-◌, ◌⊎◌, inl, inr, Bool, true, false, not, cond, ◌&&◌, List, [], ◌∷◌, ◌++◌, length, map, refl, sym, ap, subst, ◌∙◌, ⊎_elim, arith}
use Rattle.std.specs.Prelude.{◌==◌, nat_lt, filter, flat_map}
use Rattle.std.specs.List.{list_any, list_all}
use Rattle.std.proofs.lemmas.List.{append_assoc, length-append}
use Rattle.std.proofs.lemmas.List.Folds.{list_all-append}
use Rattle.std.proofs.lemmas.Bool.{and_parts, and_from, eqb-true, eq-eqb, false≢true, not_from_true}
use Rattle.policy_model.specs.Lists.{lists_up_to, is_nothing, pairs_of}
use Rattle.policy_model.specs.Policy.{all_ifaces, router_at, is_managed}
use Rattle.policy_model.specs.Paths.{Crossing, is_start_of, same_crossing, all_steps, is_through_router, crosses_managed}
use Rattle.policy_model.specs.Zones.{Site, zone_at}
use Rattle.policy_model.specs.Walks.{is_crossing, is_allowed_walk, all_crossings, allowed_walks}
use Rattle.policy_model.proofs.Tested.{crossing_below}
use Rattle.policy_model.proofs.AllWalks.{IsIn, in_map, in_flat_map, in_filter, in_numbers, in_pairs, in_lists_up_to, no_longer, parts_of, some_walk}
use Rattle.path_walk.specs.Search.{may_begin, goes_on, walks_on, walks_into, most_of, step_of, by_door}
use Rattle.policy_model.specs.Delivery.{goes_into}
use Rattle.topology.specs.Kept.{ifaces_of}
use Rattle.path_walk.proofs.Fronts.{tests_alike, refused, walk_begins, going_on, goes_on_is}

pub crossing_is : (c d : Crossing) → same_crossing c d ≡ true → c ≡ d
crossing_is c d h =
    let a = and_parts (c.enter == d.enter) (c.leave == d.leave) h in
    let x : record_of c.enter c.leave ≡ record_of d.enter c.leave = ap (λ (e : ℕ). record_of e c.leave) (eqb-true c.enter d.enter a.0) in
    let y : record_of d.enter c.leave ≡ record_of d.enter d.leave = ap (λ (l : ℕ). record_of d.enter l) (eqb-true c.leave d.leave a.1) in
    x ∙ y
  where
    record_of : ℕ → ℕ → Crossing
    record_of e l = record { enter = e; leave = l }

-- a path with which the other begins has a rest there
pub rest_of : (path walk : List Crossing) → is_start_of path walk ≡ true → (more : List Crossing) × (walk ≡ path ++ more)
rest_of [] walk h = (walk, refl)
rest_of (c ∷ path) [] h = absurd (false≢true h)
rest_of (c ∷ path) (d ∷ walk) h =
    let a = and_parts (same_crossing c d) (is_start_of path walk) h in
    let w = rest_of path walk a.1 in
    (w.0, ap (λ (l : List Crossing). d ∷ l) w.1 ∙ ap (λ (e : Crossing). e ∷ path ++ w.0) (sym (crossing_is c d a.0)))

starts : (path more : List Crossing) → is_start_of path (path ++ more) ≡ true
starts [] more = refl
starts (c ∷ path) more =
    and_from (same_crossing c c) (is_start_of path (path ++ more)) (and_from (c.enter == c.enter) (c.leave == c.leave) (eq-eqb c.enter c.enter refl) (eq-eqb c.leave c.leave refl)) (starts path more)

pub in_all_crossings : (s : Site) (c : Crossing) → is_crossing s c ≡ true → IsIn c (all_crossings s)
in_all_crossings s c h =
    let a = and_parts (crosses_managed s.policy c) (not (zone_at s c.enter == zone_at s c.leave)) h in
    let b = and_parts (is_through_router s.policy c) (is_managed s.policy (router_at s.policy c.enter)) a.0 in
    let d = crossing_below s.policy c b.0 in
    let n = length s.policy.ifaces in
    in_filter (is_crossing s) c (all_steps s.policy)
    (in_map (λ (e : ℕ × ℕ). record { enter = e.0; leave = e.1 }) (c.enter, c.leave) (pairs_of (all_ifaces s.policy) (all_ifaces s.policy))
    (in_pairs c.enter c.leave (all_ifaces s.policy) (all_ifaces s.policy) (in_numbers n c.enter d.0) (in_numbers n c.leave d.1))) h

each_of : (s : Site) (path : List Crossing) → list_all (is_crossing s) path ≡ true → (c : Crossing) → IsIn c path → IsIn c (all_crossings s)
each_of s [] h c i = absurd i
each_of s (d ∷ path) h c (inl e) = subst (λ x. IsIn x (all_crossings s)) (sym e) (in_all_crossings s d (and_parts (is_crossing s d) (list_all (is_crossing s) path) h).0)
each_of s (d ∷ path) h c (inr i) = each_of s path (and_parts (is_crossing s d) (list_all (is_crossing s) path) h).1 c i

-- an allowed walk is among those that begin as it does
pub in_walks_on : (s : Site) (from to : ℕ) (path more : List Crossing) → is_allowed_walk s from to (path ++ more) ≡ true → IsIn (path ++ more) (walks_on s from to (most_of s - length path) path)
in_walks_on s from to path more h =
    let w = parts_of s from to (path ++ more) h in
    let all = (and_parts (list_all (is_crossing s) path) (list_all (is_crossing s) more) (sym (list_all-append (is_crossing s) path more) ∙ w.crossings)).1 in
    let short = no_longer s (path ++ more) w.crossings w.routers_once in
    in_filter (is_allowed_walk s from to) (path ++ more) (map (λ l. path ++ l) (lists_up_to (most_of s - length path) (all_crossings s)))
    (in_map (λ l. path ++ l) more (lists_up_to (most_of s - length path) (all_crossings s))
    (in_lists_up_to (most_of s - length path) (all_crossings s) more (each_of s more all) (omega (arith, short, length-append path more)))) h

pub something : {A : Type 0} (x : A) (xs : List A) → IsIn x xs → not (is_nothing xs) ≡ true
something x [] h = absurd h
something x (y ∷ xs) h = refl

-- a list of what passes has something that passes
pub some_passes : {A B : Type 0} (test : B → Bool) (f : A → B) (xs : List A) → not (is_nothing (filter test (map f xs))) ≡ true → (x : A) × (test (f x) ≡ true)
some_passes test f [] h = absurd (false≢true h)
some_passes {A} {B} test f (x ∷ xs) h = step (some_passes test f xs) (test (f x)) refl h
  where
    step : (not (is_nothing (filter test (map f xs))) ≡ true → (y : A) × (test (f y) ≡ true)) → (b : Bool) → test (f x) ≡ b →
        not (is_nothing (cond b (f x ∷ filter test (map f xs)) (filter test (map f xs)))) ≡ true → (y : A) × (test (f y) ≡ true)
    step later true e g = (x, e)
    step later false e g = later g

-- with which paths walks begin
pub begin_is : (s : Site) (from to : ℕ) (path : List Crossing) → list_any (is_start_of path) (allowed_walks s from to) ≡ not (is_nothing (walks_on s from to (most_of s - length path) path))
begin_is s from to path =
    tests_alike (list_any (is_start_of path) (allowed_walks s from to)) (not (is_nothing (walks_on s from to (most_of s - length path) path)))
    (λ h.
    let w = (some_walk s from to (is_start_of path)).0 h in
    let r = rest_of path w.0 w.2 in
    something (path ++ r.0) (walks_on s from to (most_of s - length path) path) (in_walks_on s from to path r.0 (subst (λ l. is_allowed_walk s from to l ≡ true) r.1 w.1)))
    (λ h.
    let w = some_passes (is_allowed_walk s from to) (λ l. path ++ l) (lists_up_to (most_of s - length path) (all_crossings s)) h in
    (some_walk s from to (is_start_of path)).1 (path ++ w.0, w.1, starts path w.0))

-- none where the path itself forbids it
pub none_begin : (s : Site) (from to : ℕ) (path : List Crossing) → may_begin s from path ≡ false → list_any (is_start_of path) (allowed_walks s from to) ≡ false
none_begin s from to path no_way =
    refused (list_any (is_start_of path) (allowed_walks s from to)) (λ h.
    let w = (some_walk s from to (is_start_of path)).0 h in
    let r = rest_of path w.0 w.2 in
    false≢true (sym no_way ∙ walk_begins s from to path r.0 (subst (λ l. is_allowed_walk s from to l ≡ true) r.1 w.1)))

-- ---- walks that then enter at an interface

pub entry_of : (path walk : List Crossing) (i : ℕ) → goes_into path i walk ≡ true → (l : ℕ) × (more : List Crossing) × (walk ≡ path ++ step_of i l ∷ more)
entry_of path [] i h = absurd (false≢true h)
entry_of [] (d ∷ walk) i h = (d.leave, walk, ap (λ (e : ℕ). step_of e d.leave ∷ walk) (eqb-true d.enter i h))
entry_of (c ∷ path) (d ∷ walk) i h =
    let a = and_parts (same_crossing c d) (goes_into path i walk) h in
    let w = entry_of path walk i a.1 in
    (w.0, w.1, ap (λ (l : List Crossing). d ∷ l) w.2 ∙ ap (λ (e : Crossing). e ∷ path ++ step_of i w.0 ∷ w.1) (sym (crossing_is c d a.0)))

enters_there : (path more : List Crossing) (c : Crossing) (i : ℕ) → c.enter ≡ i → goes_into path i (path ++ c ∷ more) ≡ true
enters_there [] more c i e = eq-eqb c.enter i e
enters_there (d ∷ path) more c i e =
    and_from (same_crossing d d) (goes_into path i (path ++ c ∷ more)) (and_from (d.enter == d.enter) (d.leave == d.leave) (eq-eqb d.enter d.enter refl) (eq-eqb d.leave d.leave refl)) (enters_there path more c i e)

in_by_door : (s : Site) (from : ℕ) (path : List Crossing) (i l : ℕ) → goes_on s from path (step_of i l) ≡ true → IsIn (step_of i l) (by_door s from path i)
in_by_door s from path i l g =
    let w = going_on s from path (step_of i l) g in
    let a = and_parts (crosses_managed s.policy (step_of i l)) (not (zone_at s i == zone_at s l)) w.crossing in
    let b = and_parts (is_through_router s.policy (step_of i l)) (is_managed s.policy (router_at s.policy i)) a.0 in
    let d = and_parts (nat_lt i (length s.policy.ifaces) && nat_lt l (length s.policy.ifaces)) (router_at s.policy i == router_at s.policy l) b.0 in
    let same = eq-eqb (router_at s.policy l) (router_at s.policy i) (sym (eqb-true (router_at s.policy i) (router_at s.policy l) d.1)) in
    in_filter (goes_on s from path) (step_of i l) (map (step_of i) (ifaces_of s.policy (router_at s.policy i)))
    (in_map (step_of i) l (ifaces_of s.policy (router_at s.policy i))
    (in_filter (λ j. router_at s.policy j == router_at s.policy i) l (all_ifaces s.policy) (in_numbers (length s.policy.ifaces) l (crossing_below s.policy (step_of i l) b.0).1) same)) g

entered : (keep : Crossing → Bool) (i : ℕ) (ls : List ℕ) (c : Crossing) → IsIn c (filter keep (map (step_of i) ls)) → c.enter ≡ i
entered keep i [] c h = absurd h
entered keep i (l ∷ ls) c h = step (entered keep i ls c) (keep (step_of i l)) h
  where
    step : (IsIn c (filter keep (map (step_of i) ls)) → c.enter ≡ i) → (b : Bool) → IsIn c (cond b (step_of i l ∷ filter keep (map (step_of i) ls)) (filter keep (map (step_of i) ls))) → c.enter ≡ i
    step later true (inl e) = ap (λ (d : Crossing). d.enter) e
    step later true (inr g) = later g
    step later false g = later g

nothing_joined : {A : Type 0} (xs ys : List A) → not (is_nothing (xs ++ ys)) ≡ true → (not (is_nothing xs) ≡ true) ⊎ (not (is_nothing ys) ≡ true)
nothing_joined [] ys h = inr h
nothing_joined (x ∷ xs) ys h = inl refl

some_row : {A B : Type 0} (f : A → List B) (xs : List A) → not (is_nothing (flat_map f xs)) ≡ true → (x : A) × IsIn x xs × (not (is_nothing (f x)) ≡ true)
some_row f [] h = absurd (false≢true h)
some_row f (x ∷ xs) h = ⊎_elim (λ e. (x, inl refl, e)) (λ e. let w = some_row f xs e in (w.0, inr w.1, w.2)) (nothing_joined (f x) (flat_map f xs) h)

-- which walks begin with a path and then enter there
pub extension_is : (s : Site) (from to : ℕ) (path : List Crossing) (i : ℕ) → may_begin s from path ≡ true →
    list_any (goes_into path i) (allowed_walks s from to) ≡ not (is_nothing (walks_into s from to path i))
extension_is s from to path i begun =
    let f = λ (c : Crossing). walks_on s from to (most_of s - (length path + 1)) (path ++ c ∷ []) in
    tests_alike (list_any (goes_into path i) (allowed_walks s from to)) (not (is_nothing (walks_into s from to path i)))
    (λ h.
    let w = (some_walk s from to (goes_into path i)).0 h in
    let r = entry_of path w.0 i w.2 in
    let c = step_of i r.0 in
    let q = path ++ c ∷ [] in
    let allowed : is_allowed_walk s from to (q ++ r.1) ≡ true = subst (λ l. is_allowed_walk s from to l ≡ true) (r.2 ∙ sym (append_assoc path (c ∷ []) r.1)) w.1 in
    let g = goes_on_is s from path c begun ∙ walk_begins s from to q r.1 allowed in
    let long : length q ≡ length path + 1 = length-append path (c ∷ []) in
    something (q ++ r.1) (walks_into s from to path i)
    (in_flat_map f c (q ++ r.1) (by_door s from path i) (in_by_door s from path i r.0 g)
    (subst (λ n. IsIn (q ++ r.1) (walks_on s from to (most_of s - n) q)) long (in_walks_on s from to q r.1 allowed))))
    (λ h.
    let r = some_row f (by_door s from path i) h in
    let q = path ++ r.0 ∷ [] in
    let w = some_passes (is_allowed_walk s from to) (λ l. q ++ l) (lists_up_to (most_of s - (length path + 1)) (all_crossings s)) r.2 in
    (some_walk s from to (goes_into path i)).1 (
      path ++ r.0 ∷ w.0,
      subst (λ l. is_allowed_walk s from to l ≡ true) (append_assoc path (r.0 ∷ []) w.0) w.1,
      enters_there path w.0 r.0 i (entered (goes_on s from path) i (ifaces_of s.policy (router_at s.policy i)) r.0 r.1),
    ))

pub none_extend : (s : Site) (from to : ℕ) (path : List Crossing) (i : ℕ) → may_begin s from path ≡ false → list_any (goes_into path i) (allowed_walks s from to) ≡ false
none_extend s from to path i no_way =
    refused (list_any (goes_into path i) (allowed_walks s from to)) (λ h.
    let w = (some_walk s from to (goes_into path i)).0 h in
    let r = entry_of path w.0 i w.2 in
    false≢true (sym no_way ∙ walk_begins s from to path (step_of i r.0 ∷ r.1) (subst (λ l. is_allowed_walk s from to l ≡ true) r.2 w.1)))

-- no walk leads from a zone to itself
pub none_at_home : (s : Site) (from to : ℕ) (test : List Crossing → Bool) → from ≡ to → list_any test (allowed_walks s from to) ≡ false
none_at_home s from to test e =
    refused (list_any test (allowed_walks s from to)) (λ h.
    let w = (some_walk s from to test).0 h in
    false≢true (sym (not_from_true (from == to) (eq-eqb from to e)) ∙ (parts_of s from to w.0 w.1).elsewhere))
