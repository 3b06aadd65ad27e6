-- The least interface that passes a test.
use Rattle.std.proofs.Common.{◌≡◌, ◌∙◌, ℕ, ◌<◌, ◌≤◌, Bool, true, false, ◌&&◌, ◌||◌, List, [], ◌∷◌, ◌++◌, map, length, refl, sym, ap, subst, ⊎_elim, arith, slice_index_or}
use Rattle.std.specs.Prelude.{Option, Some, None, ◌==◌}
use Rattle.std.specs.List.{list_any}
use Rattle.std.proofs.lemmas.Bool.{or_left, or_right, or_from, or_cases, false≢true, eq-eqb, eqb-true, and_from, ne_eqb, and_parts, false_from_ne_true}
use Rattle.std.proofs.lemmas.List.Folds.{list_any-append}
use Rattle.spoc_base.specs.declared.ids.IfId.{IfId}
use Rattle.group_expand.specs.Areas.{IsFirst}
use Rattle.group_expand.specs.Sets.{is_there, are_there}
use Rattle.policy_model.specs.Policy.{Policy, is_managed, router_at, router_of}
use Rattle.policy_model.specs.Objects.{Object, NetObject, HostObject, IfaceObject}
use Rattle.policy_model.specs.Faults.{is_managed_end}
use Rattle.service_rules.specs.Least.{IsLeast, NoneBefore, rule_has_end, service_has_end}
use Rattle.std.proofs.Common.{zero, suc, ◌+◌, take}
use Rattle.std.proofs.lemmas.Bool.{cases_eq}
use Rattle.spoc_base.specs.declared.place.Source.{Source}
use Rattle.policy_model.specs.Policy as plain
use Rattle.policy_model.specs.Policy.{Rule}
use Rattle.policy_model.specs.Zones.{Site}
use Rattle.policy_model.specs.Objects.{objects_of}
use Rattle.policy_model.specs.Faults.{has_managed_end}
use Rattle.policy_model.specs.FirstFault.{no_service}
use Rattle.topology.specs.Seen.{rule_seen, service_seen}
use Rattle.topology.specs.declared.items.Service.{Service}

pub first_of_both : (first second : ℕ → Bool) (i j : ℕ) → i ≤ j → IsFirst first i → IsFirst second j → IsFirst (λ k. first k || second k) i
first_of_both first second i j h a b =
    record { passes = or_left (first i) (second i) a.passes; first = λ k low. or_from (first k) (second k) (a.first k low) (b.first k (omega (arith, low, h))) }

pub second_of_both : (first second : ℕ → Bool) (i j : ℕ) → j < i → IsFirst first i → IsFirst second j → IsFirst (λ k. first k || second k) j
second_of_both first second i j h a b =
    record { passes = or_right (first j) (second j) b.passes; first = λ k low. or_from (first k) (second k) (a.first k (omega (arith, low, h))) (b.first k low) }

pub first_alone : (first second : ℕ → Bool) (i : ℕ) → IsFirst first i → ((k : ℕ) → second k ≡ false) → IsFirst (λ k. first k || second k) i
first_alone first second i a b = record { passes = or_left (first i) (second i) a.passes; first = λ k low. or_from (first k) (second k) (a.first k low) (b k) }

pub second_alone : (first second : ℕ → Bool) (j : ℕ) → ((k : ℕ) → first k ≡ false) → IsFirst second j → IsFirst (λ k. first k || second k) j
second_alone first second j a b = record { passes = or_right (first j) (second j) b.passes; first = λ k low. or_from (first k) (second k) (a k) (b.first k low) }

-- the same by a test that agrees
pub least_same : (first second : ℕ → Bool) (found : Option IfId) → ((k : ℕ) → first k ≡ second k) → IsLeast first found → IsLeast second found
least_same first second None same h = λ k. sym (same k) ∙ h k
least_same first second (Some i) same h = record { passes = sym (same i.0) ∙ h.passes; first = λ k low. sym (same k) ∙ h.first k low }

-- ---- managed ends

pub not_iface : (p : Policy) (o : Object) → ((i : ℕ) → o ≡ IfaceObject i → ⊥) → (k : ℕ) → is_managed_end p k o ≡ false
not_iface p (NetObject n) no_iface k = refl
not_iface p (HostObject h) no_iface k = refl
not_iface p (IfaceObject i) no_iface k = absurd (no_iface i refl)

pub managed_alone : (p : Policy) (i : ℕ) → is_managed p (router_at p i) ≡ true → IsFirst (λ k. is_managed_end p k (IfaceObject i)) i
managed_alone p i h =
    record {
      passes = and_from (i == i) (is_managed p (router_at p i)) (eq-eqb i i refl) h;
      first = λ k low. ap (λ (b : Bool). b && is_managed p (router_at p k)) (ne_eqb k i (λ e. absurd (omega (arith, low, e))));
    }

pub unmanaged_none : (p : Policy) (i : ℕ) → is_managed p (router_at p i) ≡ false → (k : ℕ) → is_managed_end p k (IfaceObject i) ≡ false
unmanaged_none p i h k =
    false_from_ne_true (is_managed_end p k (IfaceObject i)) (λ t. let a = and_parts (k == i) (is_managed p (router_at p k)) t in
    false≢true (sym h ∙ subst (λ (x : ℕ). is_managed p (router_at p x) ≡ true) (eqb-true k i a.0) a.1))

-- a managed end among objects is an interface that is there
pub end_there : (p : Policy) (i : ℕ) (objects : List Object) → are_there p objects ≡ true → list_any (is_managed_end p i) objects ≡ true → is_there p (IfaceObject i) ≡ true
end_there p i [] there h = absurd (false≢true h)
end_there p i (o ∷ os) there h =
    let a = and_parts (is_there p o) (are_there p os) there in
    ⊎_elim (λ e. one o a.0 e) (λ e. end_there p i os a.1 e) (or_cases (is_managed_end p i o) (list_any (is_managed_end p i) os) h)
  where
    one : (o : Object) → is_there p o ≡ true → is_managed_end p i o ≡ true → is_there p (IfaceObject i) ≡ true
    one (NetObject n) t e = absurd (false≢true e)
    one (HostObject x) t e = absurd (false≢true e)
    one (IfaceObject j) t e = subst (λ (x : ℕ). is_there p (IfaceObject x) ≡ true) (sym (eqb-true i j (and_parts (i == j) (is_managed p (router_at p i)) e).0)) t

-- ---- tests of some among the first items

any_seen : {A B : Type 0} (test : B → Bool) (f : A → B) (xs : List A) → list_any test (map f xs) ≡ list_any (λ x. test (f x)) xs
any_seen test f [] = refl
any_seen test f (x ∷ xs) = ap (λ (b : Bool). test (f x) || b) (any_seen test f xs)

any_more : {A : Type 0} (test : A → Bool) (xs : List A) (k : ℕ) (d : A) → k < length xs → list_any test (take (k + 1) xs) ≡ (list_any test (take k xs) || test (slice_index_or xs k d))
any_more test [] k d h = absurd (omega (arith, h))
any_more test (x ∷ xs) zero d h = or_false (test x)
  where
    or_false : (b : Bool) → (b || false) ≡ b
    or_false true = refl
    or_false false = refl
any_more {A} test (x ∷ xs) (suc k) d h =
    let e : suc k + 1 ≡ suc (k + 1) = omega arith in
    ap (λ (m : ℕ). list_any test (take m (x ∷ xs))) e ∙ (ap (λ (b : Bool). test x || b) (any_more test xs k d (omega (arith, h)))
    ∙ sym (or_assoc (test x) (list_any test (take k xs)) (test (slice_index_or xs k d))))
  where
    or_assoc : (a b c : Bool) → ((a || b) || c) ≡ (a || (b || c))
    or_assoc true b c = refl
    or_assoc false b c = refl

all_taken : {A : Type 0} (xs : List A) (k : ℕ) → length xs ≤ k → take k xs ≡ xs
all_taken [] zero h = refl
all_taken [] (suc k) h = refl
all_taken (x ∷ xs) zero h = absurd (omega (arith, h))
all_taken {A} (x ∷ xs) (suc k) h = ap (λ (l : List A). x ∷ l) (all_taken xs k (omega (arith, h)))

-- two found by tests are combined into one by both
abbrev pub Combines : Option IfId → Option IfId → Option IfId → Type 0
Combines one two both = (first second : ℕ → Bool) → IsLeast first one → IsLeast second two → IsLeast (λ i. first i || second i) both

pub least_more : {A : Type 0} (test : ℕ → A → Bool) (xs : List A) (k : ℕ) (d : A) (old one new : Option IfId) → k < length xs → Combines old one new → IsLeast (λ i. test i (slice_index_or xs k d)) one →
    IsLeast (λ i. list_any (test i) (take k xs)) old → IsLeast (λ i. list_any (test i) (take (k + 1) xs)) new
least_more test xs k d old one new h both is so_far =
    least_same (λ i. list_any (test i) (take k xs) || test i (slice_index_or xs k d)) (λ i. list_any (test i) (take (k + 1) xs)) new (λ i. sym (any_more (test i) xs k d h))
    (both (λ i. list_any (test i) (take k xs)) (λ i. test i (slice_index_or xs k d)) so_far is)

pub least_all : {A B : Type 0} (test : ℕ → B → Bool) (f : A → B) (xs : List A) (k : ℕ) (found : Option IfId) → length xs ≤ k → IsLeast (λ i. list_any (λ x. test i (f x)) (take k xs)) found →
    IsLeast (λ i. list_any (test i) (map f xs)) found
least_all {A} {B} test f xs k found h is =
    least_same (λ i. list_any (λ x. test i (f x)) (take k xs)) (λ i. list_any (test i) (map f xs)) found
    (λ i. ap (list_any (λ (x : A). test i (f x))) (all_taken xs k h) ∙ sym (any_seen (test i) f xs)) is

pub rule_least : (s : Site) (areas : List (List ℕ)) (user : List Object) (rule : Rule) (srcs dsts : List Object) (found : Option IfId) → srcs ≡ objects_of s areas user rule.src →
    dsts ≡ objects_of s areas user rule.dst → IsLeast (λ i. list_any (is_managed_end s.policy i) srcs || list_any (is_managed_end s.policy i) dsts) found →
    IsLeast (rule_has_end s areas user rule) found
rule_least s areas user rule srcs dsts found e f is =
    least_same (λ i. list_any (is_managed_end s.policy i) srcs || list_any (is_managed_end s.policy i) dsts) (rule_has_end s areas user rule) found
    (λ i. sym (list_any-append (is_managed_end s.policy i) srcs dsts)
    ∙ (ap (λ (l : List Object). list_any (is_managed_end s.policy i) (l ++ dsts)) e ∙ ap (λ (l : List Object). list_any (is_managed_end s.policy i) (objects_of s areas user rule.src ++ l)) f)) is

pub service_least : (s : Site) (areas : List (List ℕ)) (sources : List Source) (x : Service) (user : List Object) (found : Option IfId) → user ≡ objects_of s areas [] (service_seen sources x).user →
    IsLeast (λ i. list_any (λ r. rule_has_end s areas user r i) (map rule_seen x.rules.now)) found → IsLeast (has_managed_end s areas (service_seen sources x)) found
service_least s areas sources x user found e is = subst (λ (u : List Object). IsLeast (λ i. list_any (λ r. rule_has_end s areas u r i) (map rule_seen x.rules.now)) found) e is

pub service_at : (sources : List Source) (services : List Service) (all : List plain.Service) (k : ℕ) (x : Service) → map (service_seen sources) services ≡ all → k < length services →
    x ≡ slice_index_or services k x → service_seen sources x ≡ slice_index_or all k no_service
service_at sources services all k x e h is = ap (service_seen sources) is ∙ (at services k h ∙ ap (λ (l : List plain.Service). slice_index_or l k no_service) e)
  where
    at : (xs : List Service) (k : ℕ) → k < length xs → service_seen sources (slice_index_or xs k x) ≡ slice_index_or (map (service_seen sources) xs) k no_service
    at [] k h = absurd (omega (arith, h))
    at (y ∷ ys) zero h = refl
    at (y ∷ ys) (suc k) h = at ys k (omega (arith, h))

pub none_more : (s : Site) (areas : List (List ℕ)) (x : plain.Service) (k : ℕ) → x ≡ slice_index_or s.policy.services k no_service → ((i : ℕ) → has_managed_end s areas x i ≡ false) →
    NoneBefore s areas k → NoneBefore s areas (k + 1)
none_more s areas x k e no_end before l i h =
    ⊎_elim (λ same. subst (λ (y : ℕ). service_has_end s areas y i ≡ false) (sym same) (ap (λ (y : plain.Service). has_managed_end s areas y i) (sym e) ∙ no_end i))
    (λ other. before l i (omega (arith, h, other))) (cases_eq l k)

pub least_item : {A : Type 0} (test : ℕ → A → Bool) (xs : List A) (k : ℕ) (x : A) (old one new : Option IfId) → k < length xs → x ≡ slice_index_or xs k x → Combines old one new →
    IsLeast (λ i. test i x) one → IsLeast (λ i. list_any (test i) (take k xs)) old → IsLeast (λ i. list_any (test i) (take (k + 1) xs)) new
least_item {A} test xs k x old one new h at both is so_far =
    least_more test xs k x old one new h both (subst (λ (y : A). IsLeast (λ i. test i y) one) at is) so_far
