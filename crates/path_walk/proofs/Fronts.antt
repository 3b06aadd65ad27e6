-- What the beginning of an allowed walk is, and how it goes on by one crossing.
use Rattle.std.proofs.Common.{◌≡◌, ℕ, Bool, true, false, not, ◌&&◌, ◌||◌, List, [], ◌∷◌, ◌++◌, map, refl, sym, ap, subst, ◌∙◌, ⊎_elim}
use Rattle.std.specs.Prelude.{◌==◌}
use Rattle.std.specs.List.{list_any, list_all}
use Rattle.std.proofs.lemmas.List.{map-append}
use Rattle.std.proofs.lemmas.List.Folds.{list_any-append, list_all-append}
use Rattle.std.proofs.lemmas.List.Concat.{flat_map-append}
use Rattle.std.proofs.lemmas.Bool.{and_parts, and_from, or_cases, or_left, or_right, or_parts, eqb-true, eq-eqb, false≢true, not-true, not_from_false}
use Rattle.policy_model.specs.Lists.{has, are_distinct}
use Rattle.policy_model.specs.Policy.{Policy, router_at}
use Rattle.policy_model.specs.Paths.{Crossing, leads, places_on, routers_on, interfaces_on}
use Rattle.policy_model.specs.Zones.{Site, zone_at}
use Rattle.policy_model.specs.Walks.{is_crossing, has_two_of, restricted_sets, is_walk, is_unrestricted, is_allowed_walk}
use Rattle.policy_model.proofs.AllWalks.{parts_of}
use Rattle.path_walk.specs.Search.{end_of, may_begin, goes_on}

-- ---- tests

pub tests_alike : (a b : Bool) → (a ≡ true → b ≡ true) → (b ≡ true → a ≡ true) → a ≡ b
tests_alike true b f g = sym (f refl)
tests_alike false true f g = g refl
tests_alike false false f g = refl

pub refused : (a : Bool) → (a ≡ true → ⊥) → a ≡ false
refused a = elim a as (λ b. (b ≡ true → ⊥) → b ≡ false) [ true ↦ λ gone. absurd (gone refl) | false ↦ λ gone. refl ]

not_back : (a b : Bool) → (a ≡ true → b ≡ true) → not b ≡ true → not a ≡ true
not_back true b f h = sym (ap not (f refl)) ∙ h
not_back false b f h = refl

any_grows : {A : Type 0} (f g : A → Bool) (xs : List A) → ((x : A) → f x ≡ true → g x ≡ true) → list_any f xs ≡ true → list_any g xs ≡ true
any_grows f g [] grows h = h
any_grows f g (x ∷ xs) grows h =
    ⊎_elim (λ e. or_left (g x) (list_any g xs) (grows x e)) (λ e. or_right (g x) (list_any g xs) (any_grows f g xs grows e)) (or_cases (f x) (list_any f xs) h)

pub any_none : {A : Type 0} (f : A → Bool) (xs : List A) → ((x : A) → f x ≡ false) → list_any f xs ≡ false
any_none f [] gone = refl
any_none f (x ∷ xs) gone = ap (λ (b : Bool). b || list_any f xs) (gone x) ∙ any_none f xs gone

all_grows : {A : Type 0} (f g : A → Bool) (xs : List A) → ((x : A) → f x ≡ true → g x ≡ true) → list_all f xs ≡ true → list_all g xs ≡ true
all_grows f g [] grows h = h
all_grows f g (x ∷ xs) grows h =
    let a = and_parts (f x) (list_all f xs) h in and_from (g x) (list_all g xs) (grows x a.0) (all_grows f g xs grows a.1)

-- ---- numbers in lists

has_append : (xs ys : List ℕ) (z : ℕ) → has (xs ++ ys) z ≡ (has xs z || has ys z)
has_append xs ys z = list_any-append (λ x. x == z) xs ys

has_front : (xs ys : List ℕ) (z : ℕ) → has xs z ≡ true → has (xs ++ ys) z ≡ true
has_front xs ys z h = has_append xs ys z ∙ or_left (has xs z) (has ys z) h

has_back : (xs ys : List ℕ) (z : ℕ) → has ys z ≡ true → has (xs ++ ys) z ≡ true
has_back xs ys z h = has_append xs ys z ∙ or_right (has xs z) (has ys z) h

distinct_front : (xs ys : List ℕ) → are_distinct (xs ++ ys) ≡ true → are_distinct xs ≡ true
distinct_front [] ys h = refl
distinct_front (x ∷ xs) ys h =
    let a = and_parts (not (has (xs ++ ys) x)) (are_distinct (xs ++ ys)) h in
    and_from (not (has xs x)) (are_distinct xs) (not_back (has xs x) (has (xs ++ ys) x) (has_front xs ys x) a.0) (distinct_front xs ys a.1)

pub distinct_apart : (xs ys : List ℕ) (z : ℕ) → are_distinct (xs ++ ys) ≡ true → has xs z ≡ true → has ys z ≡ true → ⊥
distinct_apart [] ys z h front back = false≢true front
distinct_apart (x ∷ xs) ys z h front back =
    let a = and_parts (not (has (xs ++ ys) x)) (are_distinct (xs ++ ys)) h in
    ⊎_elim
    (λ e. false≢true (sym (not-true (has (xs ++ ys) x) a.0) ∙ has_back xs ys x (subst (λ (w : ℕ). has ys w ≡ true) (sym (eqb-true x z e)) back)))
    (λ e. distinct_apart xs ys z a.1 e back) (or_cases (x == z) (has xs z) front)

distinct_more : (xs : List ℕ) (z : ℕ) → are_distinct xs ≡ true → has xs z ≡ false → are_distinct (xs ++ z ∷ []) ≡ true
distinct_more [] z h gone = refl
distinct_more (x ∷ xs) z h gone =
    let a = and_parts (not (has xs x)) (are_distinct xs) h in
    let b = or_parts (x == z) (has xs z) gone in
    let last : has (z ∷ []) x ≡ false = refused (has (z ∷ []) x) (λ e. ⊎_elim (λ f. false≢true (sym b.0 ∙ eq-eqb x z (sym (eqb-true z x f)))) (λ f. false≢true f) (or_cases (z == x) false e)) in
    let apart : has (xs ++ z ∷ []) x ≡ false = has_append xs (z ∷ []) x ∙ (ap (λ (t : Bool). t || has (z ∷ []) x) (not-true (has xs x) a.0) ∙ last) in
    and_from (not (has (xs ++ z ∷ []) x)) (are_distinct (xs ++ z ∷ [])) (not_from_false (has (xs ++ z ∷ []) x) apart) (distinct_more xs z a.1 b.1)

-- ---- places

places_are : (at : ℕ → ℕ) (from : ℕ) (path : List Crossing) → places_on at from path ≡ from ∷ map (λ (c : Crossing). at c.leave) path
places_are at from [] = refl
places_are at from (c ∷ path) = ap (λ (l : List ℕ). from ∷ l) (places_are at (at c.leave) path)

pub places_append : (at : ℕ → ℕ) (from : ℕ) (path more : List Crossing) → places_on at from (path ++ more) ≡ places_on at from path ++ map (λ (c : Crossing). at c.leave) more
places_append at from [] more = places_are at from more
places_append at from (c ∷ path) more = ap (λ (l : List ℕ). from ∷ l) (places_append at (at c.leave) path more)

end_is_passed : (s : Site) (from : ℕ) (path : List Crossing) → has (places_on (zone_at s) from path) (end_of s from path) ≡ true
end_is_passed s from [] = or_left (from == from) false (eq-eqb from from refl)
end_is_passed s from (c ∷ path) =
    or_right (from == end_of s (zone_at s c.leave) path) (has (places_on (zone_at s) (zone_at s c.leave) path) (end_of s (zone_at s c.leave) path)) (end_is_passed s (zone_at s c.leave) path)

pub leads_to_end : (s : Site) (from to : ℕ) (path : List Crossing) → leads (zone_at s) from path to ≡ true → end_of s from path ≡ to
leads_to_end s from to [] h = eqb-true from to h
leads_to_end s from to (c ∷ path) h = leads_to_end s (zone_at s c.leave) to path (and_parts (zone_at s c.enter == from) (leads (zone_at s) (zone_at s c.leave) path to) h).1

pub leads_parts : (s : Site) (from to : ℕ) (path more : List Crossing) → leads (zone_at s) from (path ++ more) to ≡ true →
    (leads (zone_at s) from path (end_of s from path) ≡ true) × (leads (zone_at s) (end_of s from path) more to ≡ true)
leads_parts s from to [] more h = (eq-eqb from from refl, h)
leads_parts s from to (c ∷ path) more h =
    let a = and_parts (zone_at s c.enter == from) (leads (zone_at s) (zone_at s c.leave) (path ++ more) to) h in
    let b = leads_parts s (zone_at s c.leave) to path more a.1 in
    (and_from (zone_at s c.enter == from) (leads (zone_at s) (zone_at s c.leave) path (end_of s (zone_at s c.leave) path)) a.0 b.0, b.1)

pub end_more : (s : Site) (from : ℕ) (path : List Crossing) (c : Crossing) → end_of s from (path ++ c ∷ []) ≡ zone_at s c.leave
end_more s from [] c = refl
end_more s from (d ∷ path) c = end_more s (zone_at s d.leave) path c

leads_more : (s : Site) (from : ℕ) (path : List Crossing) (c : Crossing) → leads (zone_at s) from path (end_of s from path) ≡ true → zone_at s c.enter ≡ end_of s from path →
    leads (zone_at s) from (path ++ c ∷ []) (zone_at s c.leave) ≡ true
leads_more s from [] c h e = and_from (zone_at s c.enter == from) (zone_at s c.leave == zone_at s c.leave) (eq-eqb (zone_at s c.enter) from e) (eq-eqb (zone_at s c.leave) (zone_at s c.leave) refl)
leads_more s from (d ∷ path) c h e =
    let a = and_parts (zone_at s d.enter == from) (leads (zone_at s) (zone_at s d.leave) path (end_of s (zone_at s d.leave) path)) h in
    and_from (zone_at s d.enter == from) (leads (zone_at s) (zone_at s d.leave) (path ++ c ∷ []) (zone_at s c.leave)) a.0 (leads_more s (zone_at s d.leave) path c a.1 e)

-- ---- restrictions

two_in_front : (members xs ys : List ℕ) → has_two_of members xs ≡ true → has_two_of members (xs ++ ys) ≡ true
two_in_front members xs ys h =
    any_grows (λ i. list_any (λ j. not (i == j) && has xs i && has xs j) members) (λ i. list_any (λ j. not (i == j) && has (xs ++ ys) i && has (xs ++ ys) j) members) members
    (λ i. any_grows (λ j. not (i == j) && has xs i && has xs j) (λ j. not (i == j) && has (xs ++ ys) i && has (xs ++ ys) j) members
    (λ j e.
    let a = and_parts (not (i == j) && has xs i) (has xs j) e in
    let b = and_parts (not (i == j)) (has xs i) a.0 in
    and_from (not (i == j) && has (xs ++ ys) i) (has (xs ++ ys) j) (and_from (not (i == j)) (has (xs ++ ys) i) b.0 (has_front xs ys i b.1)) (has_front xs ys j a.1))) h

unrestricted_front : (p : Policy) (path more : List Crossing) → is_unrestricted p (path ++ more) ≡ true → is_unrestricted p path ≡ true
unrestricted_front p path more h =
    all_grows (λ members. not (has_two_of members (interfaces_on (path ++ more)))) (λ members. not (has_two_of members (interfaces_on path))) (restricted_sets p)
    (λ members. not_back (has_two_of members (interfaces_on path)) (has_two_of members (interfaces_on (path ++ more)))
    (λ e. ap (λ (l : List ℕ). has_two_of members l) (flat_map-append (λ (c : Crossing). c.enter ∷ c.leave ∷ []) path more)
    ∙ two_in_front members (interfaces_on path) (interfaces_on more) e)) h

-- ---- beginnings

pub record MayBegin (s : Site) (from : ℕ) (path : List Crossing) : Type 0 where
  pub crossings : list_all (is_crossing s) path ≡ true
  pub ends : leads (zone_at s) from path (end_of s from path) ≡ true
  pub zones_once : are_distinct (places_on (zone_at s) from path) ≡ true
  pub routers_once : are_distinct (routers_on s.policy path) ≡ true
  pub unrestricted : is_unrestricted s.policy path ≡ true

pub beginning_of : (s : Site) (from : ℕ) (path : List Crossing) → may_begin s from path ≡ true → MayBegin s from path
beginning_of s from path h =
    let l = list_all (is_crossing s) path in
    let e = leads (zone_at s) from path (end_of s from path) in
    let z = are_distinct (places_on (zone_at s) from path) in
    let r = are_distinct (routers_on s.policy path) in
    let a = and_parts (l && e && z && r) (is_unrestricted s.policy path) h in
    let b = and_parts (l && e && z) r a.0 in
    let c = and_parts (l && e) z b.0 in
    let d = and_parts l e c.0 in
    record { crossings = d.0; ends = d.1; zones_once = c.1; routers_once = b.1; unrestricted = a.1 }

pub begins_by : (s : Site) (from : ℕ) (path : List Crossing) → MayBegin s from path → may_begin s from path ≡ true
begins_by s from path b =
    let l = list_all (is_crossing s) path in
    let e = leads (zone_at s) from path (end_of s from path) in
    let z = are_distinct (places_on (zone_at s) from path) in
    let r = are_distinct (routers_on s.policy path) in
    and_from (l && e && z && r) (is_unrestricted s.policy path)
    (and_from (l && e && z) r (and_from (l && e) z (and_from l e b.crossings b.ends) b.zones_once) b.routers_once) b.unrestricted

-- the beginning of an allowed walk
pub walk_begins : (s : Site) (from to : ℕ) (path more : List Crossing) → is_allowed_walk s from to (path ++ more) ≡ true → may_begin s from path ≡ true
walk_begins s from to path more h =
    let w = parts_of s from to (path ++ more) h in
    begins_by s from path (record {
      crossings = (and_parts (list_all (is_crossing s) path) (list_all (is_crossing s) more) (sym (list_all-append (is_crossing s) path more) ∙ w.crossings)).0;
      ends = (leads_parts s from to path more w.ends).0;
      zones_once = distinct_front (places_on (zone_at s) from path) (map (λ (c : Crossing). zone_at s c.leave) more) (sym (ap are_distinct (places_append (zone_at s) from path more)) ∙ w.zones_once);
      routers_once = distinct_front (routers_on s.policy path) (routers_on s.policy more) (sym (ap are_distinct (map-append (λ (c : Crossing). router_at s.policy c.enter) path more)) ∙ w.routers_once);
      unrestricted = unrestricted_front s.policy path more w.unrestricted;
    })

-- the beginning of what may begin one
pub front_begins : (s : Site) (from : ℕ) (path more : List Crossing) → may_begin s from (path ++ more) ≡ true → may_begin s from path ≡ true
front_begins s from path more h =
    let w = beginning_of s from (path ++ more) h in
    begins_by s from path (record {
      crossings = (and_parts (list_all (is_crossing s) path) (list_all (is_crossing s) more) (sym (list_all-append (is_crossing s) path more) ∙ w.crossings)).0;
      ends = (leads_parts s from (end_of s from (path ++ more)) path more w.ends).0;
      zones_once = distinct_front (places_on (zone_at s) from path) (map (λ (c : Crossing). zone_at s c.leave) more) (sym (ap are_distinct (places_append (zone_at s) from path more)) ∙ w.zones_once);
      routers_once = distinct_front (routers_on s.policy path) (routers_on s.policy more) (sym (ap are_distinct (map-append (λ (c : Crossing). router_at s.policy c.enter) path more)) ∙ w.routers_once);
      unrestricted = unrestricted_front s.policy path more w.unrestricted;
    })

-- an allowed walk leads to its end
pub walk_ends : (s : Site) (from to : ℕ) (path : List Crossing) → is_allowed_walk s from to path ≡ true → end_of s from path ≡ to
walk_ends s from to path h = leads_to_end s from to path (parts_of s from to path h).ends

-- nothing goes on from there
pub walk_stops : (s : Site) (from to : ℕ) (path : List Crossing) (c : Crossing) (more : List Crossing) → end_of s from path ≡ to → is_allowed_walk s from to (path ++ c ∷ more) ≡ true → ⊥
walk_stops s from to path c more e h =
    let w = parts_of s from to (path ++ c ∷ more) h in
    let to_end : end_of s (end_of s from path) (c ∷ more) ≡ to = leads_to_end s (end_of s from path) to (c ∷ more) (leads_parts s from to path (c ∷ more) w.ends).1 in
    let back : has (map (λ (d : Crossing). zone_at s d.leave) (c ∷ more)) to ≡ true =
    subst (λ (z : ℕ). has (map (λ (d : Crossing). zone_at s d.leave) (c ∷ more)) z ≡ true) to_end
    (ap (λ (l : List ℕ). has l (end_of s (zone_at s c.leave) more)) (sym (places_are (zone_at s) (zone_at s c.leave) more)) ∙ end_is_passed s (zone_at s c.leave) more) in
    distinct_apart (places_on (zone_at s) from path) (map (λ (d : Crossing). zone_at s d.leave) (c ∷ more)) to
    (sym (ap are_distinct (places_append (zone_at s) from path (c ∷ more))) ∙ w.zones_once)
    (subst (λ (z : ℕ). has (places_on (zone_at s) from path) z ≡ true) e (end_is_passed s from path)) back

-- a path that leads there is a walk
pub walk_by : (s : Site) (from to : ℕ) (path : List Crossing) → not (from == to) ≡ true → may_begin s from path ≡ true → end_of s from path ≡ to → is_allowed_walk s from to path ≡ true
walk_by s from to path other h e =
    let b = beginning_of s from path h in
    let l = list_all (is_crossing s) path in
    let z = are_distinct (places_on (zone_at s) from path) in
    let r = are_distinct (routers_on s.policy path) in
    let d = leads (zone_at s) from path to in
    and_from (is_walk s from to path) (is_unrestricted s.policy path)
    (and_from (not (from == to) && l && d && z) r
    (and_from (not (from == to) && l && d) z (and_from (not (from == to) && l) d (and_from (not (from == to)) l other b.crossings) (subst (λ (w : ℕ). leads (zone_at s) from path w ≡ true) e b.ends)) b.zones_once)
    b.routers_once) b.unrestricted

-- ---- one crossing more

pub record GoesOn (s : Site) (from : ℕ) (path : List Crossing) (c : Crossing) : Type 0 where
  pub crossing : is_crossing s c ≡ true
  pub here : zone_at s c.enter ≡ end_of s from path
  pub new_zone : has (places_on (zone_at s) from path) (zone_at s c.leave) ≡ false
  pub new_router : has (routers_on s.policy path) (router_at s.policy c.enter) ≡ false
  pub unrestricted : is_unrestricted s.policy (path ++ c ∷ []) ≡ true

pub going_on : (s : Site) (from : ℕ) (path : List Crossing) (c : Crossing) → goes_on s from path c ≡ true → GoesOn s from path c
going_on s from path c h =
    let x = is_crossing s c in
    let e = zone_at s c.enter == end_of s from path in
    let z = has (places_on (zone_at s) from path) (zone_at s c.leave) in
    let r = has (routers_on s.policy path) (router_at s.policy c.enter) in
    let a = and_parts (x && e && not z && not r) (is_unrestricted s.policy (path ++ c ∷ [])) h in
    let b = and_parts (x && e && not z) (not r) a.0 in
    let d = and_parts (x && e) (not z) b.0 in
    let f = and_parts x e d.0 in
    record { crossing = f.0; here = eqb-true (zone_at s c.enter) (end_of s from path) f.1; new_zone = not-true z d.1; new_router = not-true r b.1; unrestricted = a.1 }

last_crossing : (s : Site) (path : List Crossing) (c : Crossing) → list_all (is_crossing s) (path ++ c ∷ []) ≡ true → is_crossing s c ≡ true
last_crossing s path c h =
    (and_parts (is_crossing s c) true (and_parts (list_all (is_crossing s) path) (list_all (is_crossing s) (c ∷ [])) (sym (list_all-append (is_crossing s) path (c ∷ [])) ∙ h)).1).0

-- a path that goes on by a crossing may begin a walk if the longer one may
pub goes_on_is : (s : Site) (from : ℕ) (path : List Crossing) (c : Crossing) → may_begin s from path ≡ true → goes_on s from path c ≡ may_begin s from (path ++ c ∷ [])
goes_on_is s from path c h =
    let q = path ++ c ∷ [] in
    let old = beginning_of s from path h in
    let leave = λ (d : Crossing). zone_at s d.leave in
    let router = λ (d : Crossing). router_at s.policy d.enter in
    let places : places_on (zone_at s) from q ≡ places_on (zone_at s) from path ++ zone_at s c.leave ∷ [] = places_append (zone_at s) from path (c ∷ []) in
    let routers : routers_on s.policy q ≡ routers_on s.policy path ++ router_at s.policy c.enter ∷ [] = map-append router path (c ∷ []) in
    tests_alike (goes_on s from path c) (may_begin s from q)
    (λ g.
    let w = going_on s from path c g in
    begins_by s from q (record {
      crossings = list_all-append (is_crossing s) path (c ∷ []) ∙ and_from (list_all (is_crossing s) path) (is_crossing s c && true) old.crossings (and_from (is_crossing s c) true w.crossing refl);
      ends = subst (λ (z : ℕ). leads (zone_at s) from q z ≡ true) (sym (end_more s from path c)) (leads_more s from path c old.ends w.here);
      zones_once = ap are_distinct places ∙ distinct_more (places_on (zone_at s) from path) (zone_at s c.leave) old.zones_once w.new_zone;
      routers_once = ap are_distinct routers ∙ distinct_more (routers_on s.policy path) (router_at s.policy c.enter) old.routers_once w.new_router;
      unrestricted = w.unrestricted;
    }))
    (λ g.
    let w = beginning_of s from q g in
    let x = is_crossing s c in
    let e = zone_at s c.enter == end_of s from path in
    let z = has (places_on (zone_at s) from path) (zone_at s c.leave) in
    let r = has (routers_on s.policy path) (router_at s.policy c.enter) in
    let itself = λ (n : ℕ). or_left (n == n) false (eq-eqb n n refl) in
    let no_zone : z ≡ false = refused z (λ t. distinct_apart (places_on (zone_at s) from path) (zone_at s c.leave ∷ []) (zone_at s c.leave) (sym (ap are_distinct places) ∙ w.zones_once) t (itself (zone_at s c.leave))) in
    let no_router : r ≡ false = refused r (λ t. distinct_apart (routers_on s.policy path) (router_at s.policy c.enter ∷ []) (router_at s.policy c.enter) (sym (ap are_distinct routers) ∙ w.routers_once) t (itself (router_at s.policy c.enter))) in
    let here = (and_parts (zone_at s c.enter == end_of s from path) (zone_at s c.leave == end_of s from q) (leads_parts s from (end_of s from q) path (c ∷ []) w.ends).1).0 in
    and_from (x && e && not z && not r) (is_unrestricted s.policy q)
    (and_from (x && e && not z) (not r)
    (and_from (x && e) (not z) (and_from x e (last_crossing s path c w.crossings) here) (not_from_false z no_zone)) (not_from_false r no_router)) w.unrestricted)
