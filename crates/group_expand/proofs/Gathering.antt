-- Sets that are gathered in loops.
use Rattle.std.proofs.Common.{◌≡◌, ℕ, zero, suc, ◌+◌, ◌-◌, ◌<◌, Bool, true, false, cond, not, ◌||◌, List, [], ◌∷◌, ◌++◌, length, map, flat_map, drop, refl, sym, ap, subst, ◌∙◌, ⊎_elim, append_assoc, append-nil, arith, slice_index, slice_index_or}
use Rattle.std.specs.Prelude.{filter, Option, ◌==◌}
use Rattle.std.specs.List.{list_all, range_with_len}
use Rattle.std.proofs.lemmas.Bool.{eqb-true, false≢true, or_cases}
use Rattle.std.proofs.lemmas.List.{map-append}
use Rattle.std.proofs.lemmas.List.Folds.{list_any-append}
use Rattle.std.proofs.lemmas.List.Elements.{filter-append, filter_agree}
use Rattle.std.proofs.Math.ListN.{length-map}
use Rattle.spoc_base.specs.Address.{Cidr}
use Rattle.policy_model.specs.Lists.{has, numbers_below}
use Rattle.policy_model.specs.Policy.{all_nets}
use Rattle.policy_model.specs.Zones.{Site, zone_of, nets_in}
use Rattle.policy_model.specs.Objects.{Object, NetObject, same_object, has_object, object_set, zone_nets, is_asked, area_nets, area_zones}
use Rattle.policy_model.proofs.Numbers.{filter_left}
use Rattle.group_expand.specs.Sets.{with_object, with_objects, zone_objects, AreIn, narrowed_by}
use Rattle.group_expand.proofs.SetLaws.{same_true, gathered, grown_by_both, keeps_all, has_added, adds_nothing}
use Rattle.group_expand.proofs.Rows.{passed}
use Rattle.group_expand.proofs.Loops.{left_at}

-- ---- rows of numbers

-- each item of a row of numbers below a bound is below it
pub row_below : {T : Type 0} (number : T → ℕ) (test : ℕ → Bool) (n : ℕ) (ids : List T) (row : List ℕ) → map number ids ≡ row → row ≡ filter test (numbers_below n) → (k : ℕ) (d : T) → k < length ids →
    number (slice_index_or ids k d) < n
row_below {T} number test n ids row e f k d h =
    let long : length (map number ids) ≡ length ids = length-map ids number in
    let below : k < length (filter test (numbers_below n)) = subst (λ (xs : List ℕ). k < length xs) (e ∙ f) (omega (arith, h, long)) in
    let w = passed test n k below in
    subst (λ (x : ℕ). x < n) (sym (sym (at number ids k d h) ∙ ap (λ (xs : List ℕ). slice_index xs k) (e ∙ f))) w.0
  where
    at : (number : T → ℕ) (ids : List T) (k : ℕ) (d : T) → k < length ids → slice_index (map number ids) k ≡ number (slice_index_or ids k d)
    at number [] k d h = absurd (omega (arith, h))
    at number (i ∷ ids) zero d h = refl
    at number (i ∷ ids) (suc k) d h = at number ids k d (omega (arith, h))

-- ---- zones

pub zone_nets_cons : (s : Site) (only : Option Cidr) (n : ℕ) (ns : List ℕ) → zone_nets s only (n ∷ ns) ≡ zone_objects s only (zone_of s n) ++ zone_nets s only ns
zone_nets_cons s only n ns =
    ap (map NetObject) (filter-append (is_asked s.policy only) (nets_in s (zone_of s n)) (flat_map (λ m. nets_in s (zone_of s m)) ns))
    ∙ map-append NetObject (filter (is_asked s.policy only) (nets_in s (zone_of s n))) (filter (is_asked s.policy only) (flat_map (λ m. nets_in s (zone_of s m)) ns))

pub zone_nets_one : (s : Site) (only : Option Cidr) (n : ℕ) → zone_nets s only (n ∷ []) ≡ zone_objects s only (zone_of s n)
zone_nets_one s only n = zone_nets_cons s only n [] ∙ append-nil (zone_objects s only (zone_of s n))

-- a network of a zone more
pub asked_more : (s : Site) (only : Option Cidr) (old new : List Object) (n : ℕ) (ns : List ℕ) → new ≡ cond (is_asked s.policy only n) (with_object old (NetObject n)) old →
    with_objects new (map NetObject (filter (is_asked s.policy only) ns)) ≡ with_objects old (map NetObject (filter (is_asked s.policy only) (n ∷ ns)))
asked_more s only old new n ns e = ap (λ (l : List Object). with_objects l (map NetObject (filter (is_asked s.policy only) ns))) e ∙ by (is_asked s.policy only n)
  where
    by : (b : Bool) → with_objects (cond b (with_object old (NetObject n)) old) (map NetObject (filter (is_asked s.policy only) ns))
        ≡ with_objects old (map NetObject (cond b (n ∷ filter (is_asked s.policy only) ns) (filter (is_asked s.policy only) ns)))
    by true = refl
    by false = refl

pub none_in : (s : Site) (only : Option Cidr) (found : List Object) → AreIn s only [] found
none_in s only found z h = absurd (false≢true h)

-- a zone that is done adds nothing
pub zone_again : (s : Site) (only : Option Cidr) (zones : List ℕ) (found : List Object) (z : ℕ) → has zones z ≡ true → AreIn s only zones found →
    found ≡ with_objects found (zone_objects s only z)
zone_again s only zones found z h are = sym (adds_nothing found (zone_objects s only z) (are z h))

pub zones_kept : (s : Site) (only : Option Cidr) (zones new : List ℕ) (found : List Object) (z : ℕ) → has zones z ≡ true → ((x : ℕ) → has new x ≡ (has zones x || (z == x))) →
    AreIn s only zones found → AreIn s only new found
zones_kept s only zones new found z here more are x h =
    are x (⊎_elim (λ a. a) (λ b. subst (λ (y : ℕ). has zones y ≡ true) (eqb-true z x b) here) (or_cases (has zones x) (z == x) (sym (more x) ∙ h)))

pub zone_done : (s : Site) (only : Option Cidr) (zones new : List ℕ) (old found : List Object) (z : ℕ) → ((x : ℕ) → has new x ≡ (has zones x || (z == x))) →
    found ≡ with_objects old (zone_objects s only z) → AreIn s only zones old → AreIn s only new found
zone_done s only zones new old found z more e are x h =
    subst (λ (l : List Object). list_all (has_object l) (zone_objects s only x) ≡ true) (sym e)
    (⊎_elim (λ a. keeps_all old (zone_objects s only z) (zone_objects s only x) (are x a))
    (λ b. subst (λ (y : ℕ). list_all (has_object (with_objects old (zone_objects s only z))) (zone_objects s only y) ≡ true) (eqb-true z x b) (has_added old (zone_objects s only z)))
    (or_cases (has zones x) (z == x) (sym (more x) ∙ h)))

-- the zones of one network more
pub zones_more : (s : Site) (only : Option Cidr) (old new : List Object) (n : ℕ) (ns : List ℕ) → new ≡ with_objects old (zone_objects s only (zone_of s n)) →
    with_objects new (zone_nets s only ns) ≡ with_objects old (zone_nets s only (n ∷ ns))
zones_more s only old new n ns e =
    ap (λ (l : List Object). with_objects l (zone_nets s only ns)) e
    ∙ (sym (grown_by_both old (zone_objects s only (zone_of s n)) (zone_nets s only ns)) ∙ ap (with_objects old) (sym (zone_nets_cons s only n ns)))

-- ---- zones as a set

pub zone_more : (set new rest all : List ℕ) (z : ℕ) → ((x : ℕ) → has new x ≡ (has set x || (z == x))) → ((x : ℕ) → (has set x || has (z ∷ rest) x) ≡ has all x) →
    (x : ℕ) → (has new x || has rest x) ≡ has all x
zone_more set new rest all z more so_far x = ap (λ (b : Bool). b || has rest x) (more x) ∙ (or_assoc (has set x) (z == x) (has rest x) ∙ so_far x)
  where
    or_assoc : (a b c : Bool) → ((a || b) || c) ≡ (a || (b || c))
    or_assoc true b c = refl
    or_assoc false b c = refl

pub zones_end : (set all : List ℕ) → ((x : ℕ) → (has set x || has [] x) ≡ has all x) → (x : ℕ) → has set x ≡ has all x
zones_end set all so_far x = sym (or_false (has set x)) ∙ so_far x
  where
    or_false : (b : Bool) → (b || false) ≡ b
    or_false true = refl
    or_false false = refl

-- a loop over networks that pushes those that pass
pub pushed_net : (test : ℕ → Bool) (i n : ℕ) (old new all : List Object) → i < n → new ≡ cond (test i) (old ++ NetObject i ∷ []) old →
    old ++ map NetObject (filter test (range_with_len i (n - i))) ≡ all → new ++ map NetObject (filter test (range_with_len (i + 1) (n - (i + 1)))) ≡ all
pushed_net test i n old new all h e so_far =
    ap (λ (xs : List Object). xs ++ map NetObject rest) e
    ∙ (by (test i) ∙ (ap (λ (l : List ℕ). old ++ map NetObject l) (sym (filter_left test i n h)) ∙ so_far))
  where
    rest : List ℕ
    rest = filter test (range_with_len (i + 1) (n - (i + 1)))

    by : (b : Bool) → cond b (old ++ NetObject i ∷ []) old ++ map NetObject rest ≡ old ++ map NetObject (cond b (i ∷ rest) rest)
    by true = append_assoc old (NetObject i ∷ []) (map NetObject rest)
    by false = refl

pub nets_inside : (s : Site) (areas : List (List ℕ)) (k : ℕ) (zones row : List ℕ) → row ≡ area_zones areas k → ((z : ℕ) → has zones z ≡ has row z) →
    map NetObject (filter (λ n. has zones (zone_of s n)) (numbers_below (length s.policy.nets))) ≡ map NetObject (area_nets s areas k)
nets_inside s areas k zones row e same =
    ap (map NetObject) (filter_agree (λ n. has zones (zone_of s n)) (λ n. has (area_zones areas k) (zone_of s n))
    (λ n. same (zone_of s n) ∙ ap (λ (l : List ℕ). has l (zone_of s n)) e) (all_nets s.policy))

-- ---- hosts

pub hosts_more : (old new : List Object) (xs ys : List Object) → new ≡ with_objects old xs → with_objects new ys ≡ with_objects old (xs ++ ys)
hosts_more old new xs ys e = ap (λ (l : List Object). with_objects l ys) e ∙ sym (grown_by_both old xs ys)

-- ---- narrowing

has_more : (acc : List Object) (x o : Object) → has_object (with_object acc x) o ≡ (has_object acc o || same_object o x)
has_more acc x o = by (has_object acc x) refl
  where
    or_false : (a b : Bool) → (a || (b || false)) ≡ (a || b)
    or_false true b = refl
    or_false false true = refl
    or_false false false = refl

    or_absorbs : (a b : Bool) → (b ≡ true → a ≡ true) → a ≡ (a || b)
    or_absorbs true b f = refl
    or_absorbs false true f = f refl
    or_absorbs false false f = refl

    by : (b : Bool) → has_object acc x ≡ b → has_object (with_object acc x) o ≡ (has_object acc o || same_object o x)
    by true e =
        ap (λ (b : Bool). has_object (cond b acc (acc ++ x ∷ [])) o) e
        ∙ or_absorbs (has_object acc o) (same_object o x) (λ h. subst (λ (y : Object). has_object acc y ≡ true) (sym (same_true o x h)) e)
    by false e =
        ap (λ (b : Bool). has_object (cond b acc (acc ++ x ∷ [])) o) e
        ∙ (list_any-append (same_object o) acc (x ∷ []) ∙ or_false (has_object acc o) (same_object o x))

has_all : (acc xs : List Object) (o : Object) → has_object (with_objects acc xs) o ≡ (has_object acc o || has_object xs o)
has_all acc [] o = sym (or_false (has_object acc o))
  where
    or_false : (b : Bool) → (b || false) ≡ b
    or_false true = refl
    or_false false = refl
has_all acc (x ∷ xs) o =
    has_all (with_object acc x) xs o ∙ (ap (λ (b : Bool). b || has_object xs o) (has_more acc x o) ∙ or_assoc (has_object acc o) (same_object o x) (has_object xs o))
  where
    or_assoc : (a b c : Bool) → ((a || b) || c) ≡ (a || (b || c))
    or_assoc true b c = refl
    or_assoc false b c = refl

pub narrowed_same : (without : Bool) (xs set ys : List Object) → set ≡ with_objects [] ys → narrowed_by without xs set ≡ narrowed_by without xs ys
narrowed_same without xs set ys e = ap (narrowed_by without xs) e ∙ by without
  where
    by : (b : Bool) → narrowed_by b xs (with_objects [] ys) ≡ narrowed_by b xs ys
    by true = filter_agree (λ o. not (has_object (with_objects [] ys) o)) (λ o. not (has_object ys o)) (λ o. ap not (has_all [] ys o)) xs
    by false = filter_agree (has_object (with_objects [] ys)) (has_object ys) (λ o. has_all [] ys o) xs

pub narrowed_cons : (without : Bool) (x : Object) (xs ys : List Object) → narrowed_by without (x ∷ xs) ys ≡ narrowed_by without (x ∷ []) ys ++ narrowed_by without xs ys
narrowed_cons true x xs ys = filter-append (λ o. not (has_object ys o)) (x ∷ []) xs
narrowed_cons false x xs ys = filter-append (has_object ys) (x ∷ []) xs

-- the networks of one zone, gathered
pub one_zone : (s : Site) (only : Option Cidr) (link z : ℕ) (none new : List Object) → none ≡ [] → new ≡ with_objects none (zone_objects s only z) → z ≡ zone_of s link →
    new ≡ object_set (zone_nets s only (link ∷ []))
one_zone s only link z none new bare e is =
    e ∙ (ap (λ (l : List Object). with_objects l (zone_objects s only z)) bare
    ∙ (gathered (zone_objects s only z) ∙ (ap (λ (y : ℕ). object_set (zone_objects s only y)) is ∙ sym (ap object_set (zone_nets_one s only link)))))

-- one network of a row more
pub row_more : {T : Type 0} (number : T → ℕ) (s : Site) (only : Option Cidr) (row : List T) (k : ℕ) (d : T) (old new all : List Object) → k < length row →
    new ≡ cond (is_asked s.policy only (number (slice_index_or row k d))) (with_object old (NetObject (number (slice_index_or row k d)))) old →
    with_objects old (map NetObject (filter (is_asked s.policy only) (map number (drop k row)))) ≡ all →
    with_objects new (map NetObject (filter (is_asked s.policy only) (map number (drop (k + 1) row)))) ≡ all
row_more {T} number s only row k d old new all h e so_far =
    asked_more s only old new (number (slice_index_or row k d)) (map number (drop (k + 1) row)) e
    ∙ (ap (λ (l : List T). with_objects old (map NetObject (filter (is_asked s.policy only) (map number l)))) (sym (left_at row k d h)) ∙ so_far)
