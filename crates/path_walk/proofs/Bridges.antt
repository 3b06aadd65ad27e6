-- Tests of paths in memory as tests of the definitions' lists.
use Rattle.std.proofs.Common.{◌≡◌, ℕ, Bool, true, false, not, ◌&&◌, ◌||◌, List, [], ◌∷◌, ◌++◌, map, refl, ap, ◌∙◌}
use Rattle.std.specs.Prelude.{◌==◌}
use Rattle.std.specs.List.{list_any, list_all}
use Rattle.std.proofs.lemmas.List.Concat.{flat_map-append}
use Rattle.std.proofs.lemmas.List.Folds.{list_any-append}
use Rattle.spoc_base.specs.declared.place.Source.{Source}
use Rattle.spoc_base.specs.declared.ids.IfId.{IfId}
use Rattle.policy_model.specs.Lists.{has}
use Rattle.policy_model.specs.Policy.{Policy, router_at}
use Rattle.policy_model.specs.Paths as plain
use Rattle.policy_model.specs.Walks.{has_two_of}
use Rattle.topology.specs.Seen.{restriction_seen}
use Rattle.topology.specs.declared.items.Restriction.{Restriction}
use Rattle.path_walk.specs.declared.step.Step.{Step}
use Rattle.path_walk.specs.Seen.{step_seen, path_seen, two_on}

or_assoc : (a b c : Bool) → (a || (b || c)) ≡ (a || b || c)
or_assoc true b c = refl
or_assoc false b c = refl

any_same : {A : Type 0} (f g : A → Bool) (xs : List A) → ((x : A) → f x ≡ g x) → list_any f xs ≡ list_any g xs
any_same f g [] same = refl
any_same f g (x ∷ xs) same = ap (λ (b : Bool). b || list_any f xs) (same x) ∙ ap (λ (b : Bool). g x || b) (any_same f g xs same)

any_map : {A B : Type 0} (f : B → Bool) (g : A → B) (xs : List A) → list_any f (map g xs) ≡ list_any (λ x. f (g x)) xs
any_map f g [] = refl
any_map f g (x ∷ xs) = ap (λ (b : Bool). f (g x) || b) (any_map f g xs)

pub zones_passed : (at : ℕ → ℕ) (from z : ℕ) (path : List Step) → has (plain.places_on at from (path_seen path)) z ≡ ((from == z) || list_any (λ (c : Step). at c.leave.0 == z) path)
zones_passed at from z [] = refl
zones_passed at from z (c ∷ path) = ap (λ (b : Bool). (from == z) || b) (zones_passed at (at c.leave.0) z path)

pub routers_passed : (p : Policy) (r : ℕ) (path : List Step) → has (plain.routers_on p (path_seen path)) r ≡ list_any (λ (c : Step). router_at p c.enter.0 == r) path
routers_passed p r [] = refl
routers_passed p r (c ∷ path) = ap (λ (b : Bool). (router_at p c.enter.0 == r) || b) (routers_passed p r path)

ifaces_passed : (i : ℕ) (path : List Step) → has (plain.interfaces_on (path_seen path)) i ≡ list_any (λ (c : Step). (c.enter.0 == i) || (c.leave.0 == i)) path
ifaces_passed i [] = refl
ifaces_passed i (c ∷ path) =
    ap (λ (b : Bool). (c.enter.0 == i) || ((c.leave.0 == i) || b)) (ifaces_passed i path)
    ∙ or_assoc (c.enter.0 == i) (c.leave.0 == i) (list_any (λ (d : Step). (d.enter.0 == i) || (d.leave.0 == i)) path)

last_of : (a b c : Bool) → (a || (b || (c || false))) ≡ (a || (b || c))
last_of a b true = refl
last_of a b false = refl

pub ifaces_passed_by : (i : ℕ) (path : List Step) (last : Step) →
    has (plain.interfaces_on (path_seen path ++ step_seen last ∷ [])) i ≡ (list_any (λ (c : Step). (c.enter.0 == i) || (c.leave.0 == i)) path || ((last.enter.0 == i) || (last.leave.0 == i)))
ifaces_passed_by i path last =
    ap (λ (l : List ℕ). has l i) (flat_map-append (λ (c : plain.Crossing). c.enter ∷ c.leave ∷ []) (path_seen path) (step_seen last ∷ []))
    ∙ (list_any-append (λ x. x == i) (plain.interfaces_on (path_seen path)) (last.enter.0 ∷ last.leave.0 ∷ [])
    ∙ (ap (λ (b : Bool). b || ((last.enter.0 == i) || ((last.leave.0 == i) || false))) (ifaces_passed i path)
    ∙ last_of (list_any (λ (c : Step). (c.enter.0 == i) || (c.leave.0 == i)) path) (last.enter.0 == i) (last.leave.0 == i)))

one_there : (a : Bool) (i : ℕ) (on : ℕ → Bool) (members : List IfId) →
    list_any (λ (j : IfId). not (i == j.0) && a && on j.0) members ≡ (a && list_any (λ (j : IfId). not (i == j.0) && on j.0) members)
one_there true i on members = any_same (λ (j : IfId). not (i == j.0) && true && on j.0) (λ (j : IfId). not (i == j.0) && on j.0) members (λ j. ap (λ (b : Bool). b && on j.0) (and_true (not (i == j.0))))
  where
    and_true : (b : Bool) → (b && true) ≡ b
    and_true true = refl
    and_true false = refl
one_there false i on members = none members
  where
    and_false : (b c : Bool) → (b && false && c) ≡ false
    and_false true c = refl
    and_false false c = refl

    none : (js : List IfId) → list_any (λ (j : IfId). not (i == j.0) && false && on j.0) js ≡ false
    none [] = refl
    none (j ∷ js) = ap (λ (b : Bool). b || list_any (λ (k : IfId). not (i == k.0) && false && on k.0) js) (and_false (not (i == j.0)) (on j.0)) ∙ none js

pub two_on_is : (path : List plain.Crossing) (members : List IfId) → has_two_of (map (λ i. i.0) members) (plain.interfaces_on path) ≡ two_on path members
two_on_is path members =
    let on = has (plain.interfaces_on path) in
    any_map (λ i. list_any (λ j. not (i == j) && on i && on j) (map (λ (j : IfId). j.0) members)) (λ (i : IfId). i.0) members
    ∙ any_same (λ (i : IfId). list_any (λ j. not (i.0 == j) && on i.0 && on j) (map (λ (j : IfId). j.0) members)) (λ (i : IfId). on i.0 && list_any (λ (j : IfId). not (i.0 == j.0) && on j.0) members) members
    (λ i. any_map (λ j. not (i.0 == j) && on i.0 && on j) (λ (j : IfId). j.0) members ∙ one_there (on i.0) i.0 on members)

pub allowed_is : (sources : List Source) (path : List plain.Crossing) (restrictions : List Restriction) →
    list_all (λ r. not (has_two_of r.members (plain.interfaces_on path))) (map (restriction_seen sources) restrictions) ≡ list_all (λ (r : Restriction). not (two_on path r.members.now)) restrictions
allowed_is sources path [] = refl
allowed_is sources path (r ∷ restrictions) =
    ap (λ (b : Bool). not b && list_all (λ q. not (has_two_of q.members (plain.interfaces_on path))) (map (restriction_seen sources) restrictions)) (two_on_is path r.members.now)
    ∙ ap (λ (b : Bool). not (two_on path r.members.now) && b) (allowed_is sources path restrictions)
