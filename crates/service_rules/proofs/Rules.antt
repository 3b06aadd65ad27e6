-- Rules and services that are gone through one by one.
use Rattle.std.proofs.Common.{◌≡◌, ◌∙◌, ℕ, zero, suc, ◌+◌, ◌<◌, ◌≤◌, Bool, true, false, ◌&&◌, ◌||◌, List, [], ◌∷◌, ◌++◌, length, map, flat_map, drop, cond, refl, sym, ap, arith, append_assoc, append-nil, slice_index_or}
use Rattle.std.specs.Prelude.{filter, min}
use Rattle.std.specs.List.{list_all, list_any}
use Rattle.std.proofs.lemmas.Bool.{and_parts, false≢true}
use Rattle.std.proofs.lemmas.List.{length-append}
use Rattle.spoc_base.specs.declared.place.Source.{Source}
use Rattle.policy_model.specs.Policy as plain
use Rattle.policy_model.specs.Policy.{Policy}
use Rattle.policy_model.specs.Zones.{Site}
use Rattle.policy_model.specs.Objects.{Object, objects_of}
use Rattle.policy_model.specs.Permits.{Permit, rule_items, service_items}
use Rattle.service_rules.specs.Ends.{is_action, items_if, listed}
use Rattle.topology.specs.Seen.{rule_seen, service_seen}
use Rattle.topology.specs.Sound.{IsSound, is_sound_rule, is_sound_service, is_sound_expr, names_user}
use Rattle.topology.specs.declared.items.Rule.{Rule}
use Rattle.topology.specs.declared.items.Service.{Service}
use Rattle.group_expand.proofs.GroupOrder.{sound_anywhere}

-- ---- soundness

abbrev pub sound_rules : Policy → List Rule → Bool
sound_rules p rules = list_all (λ r. is_sound_rule p (rule_seen r)) rules

abbrev pub sound_services : Policy → List Source → List Service → Bool
sound_services p sources services = list_all (λ x. is_sound_service p (service_seen sources x)) services

all_seen : {A B : Type 0} (test : B → Bool) (f : A → B) (xs : List A) → list_all test (map f xs) ≡ list_all (λ x. test (f x)) xs
all_seen test f [] = refl
all_seen test f (x ∷ xs) = ap (λ (b : Bool). test (f x) && b) (all_seen test f xs)

pub rules_sound : (p : Policy) (sources : List Source) (x : Service) → is_sound_service p (service_seen sources x) ≡ true → sound_rules p x.rules.now ≡ true
rules_sound p sources x h =
    sym (all_seen (is_sound_rule p) rule_seen x.rules.now) ∙ (and_parts (is_sound_expr p false false (service_seen sources x).user) (list_all (is_sound_rule p) (service_seen sources x).rules) h).1

pub user_sound : (p : Policy) (x : plain.Service) → is_sound_service p x ≡ true → is_sound_expr p true true x.user ≡ true
user_sound p x h = sound_anywhere p false false x.user (and_parts (is_sound_expr p false false x.user) (list_all (is_sound_rule p) x.rules) h).0

sides_sound : (p : Policy) (r : plain.Rule) → is_sound_rule p r ≡ true → (is_sound_expr p true false r.src && is_sound_expr p true false r.dst) ≡ true
sides_sound p r h = (and_parts (is_sound_expr p true false r.src && is_sound_expr p true false r.dst) (names_user r.src || names_user r.dst) h).0

pub source_sound : (p : Policy) (r : plain.Rule) → is_sound_rule p r ≡ true → is_sound_expr p true true r.src ≡ true
source_sound p r h = sound_anywhere p true false r.src (and_parts (is_sound_expr p true false r.src) (is_sound_expr p true false r.dst) (sides_sound p r h)).0

pub destination_sound : (p : Policy) (r : plain.Rule) → is_sound_rule p r ≡ true → is_sound_expr p true true r.dst ≡ true
destination_sound p r h = sound_anywhere p true false r.dst (and_parts (is_sound_expr p true false r.src) (is_sound_expr p true false r.dst) (sides_sound p r h)).1

pub services_sound : (p : Policy) (sources : List Source) (services : List Service) → IsSound p → map (service_seen sources) services ≡ p.services → sound_services p sources services ≡ true
services_sound p sources services sound e = sym (all_seen (is_sound_service p) (service_seen sources) services) ∙ (ap (list_all (is_sound_service p)) e ∙ sound.sets.services)

-- ---- the items that are left

module _ {A : Type 0} where
  pub left_at : (xs : List A) (k : ℕ) (d : A) → k < length xs → drop k xs ≡ slice_index_or xs k d ∷ drop (k + 1) xs
  left_at [] k d h = absurd (omega (arith, h))
  left_at (x ∷ xs) zero d h = refl
  left_at (x ∷ xs) (suc k) d h =
      let e : suc k + 1 ≡ suc (k + 1) = omega arith in
      left_at xs k d (omega (arith, h)) ∙ ap (λ (m : ℕ). slice_index_or xs k d ∷ drop m (x ∷ xs)) (sym e)

  pub nothing_left : (xs : List A) (k : ℕ) → length xs ≤ k → drop k xs ≡ []
  nothing_left [] zero h = refl
  nothing_left [] (suc k) h = refl
  nothing_left (x ∷ xs) zero h = absurd (omega (arith, h))
  nothing_left (x ∷ xs) (suc k) h = nothing_left xs k (omega (arith, h))

-- ---- permits

abbrev pub rules_to_come : Site → List (List ℕ) → List Object → Bool → List Rule → List Permit
rules_to_come s areas user deny rules = flat_map (items_if s areas user deny) (map rule_seen rules)

abbrev pub services_to_come : Site → List (List ℕ) → Bool → List Source → List Service → List Permit
services_to_come s areas deny sources services = flat_map (service_items s areas (is_action deny)) (map (service_seen sources) services)

-- what those that pass give, by going through all
given_by_those : {A B : Type 0} (test : A → Bool) (f : A → List B) (xs : List A) → flat_map (λ x. cond (test x) (f x) []) xs ≡ flat_map f (filter test xs)
given_by_those test f [] = refl
given_by_those {A} {B} test f (x ∷ xs) = ap (λ (l : List B). cond (test x) (f x) [] ++ l) (given_by_those test f xs) ∙ by (test x)
  where
    by : (b : Bool) → cond b (f x) [] ++ flat_map f (filter test xs) ≡ flat_map f (cond b (x ∷ filter test xs) (filter test xs))
    by true = refl
    by false = refl

pub service_begins : (s : Site) (areas : List (List ℕ)) (deny : Bool) (sources : List Source) (x : Service) (user : List Object) → user ≡ objects_of s areas [] (service_seen sources x).user →
    rules_to_come s areas user deny x.rules.now ≡ service_items s areas (is_action deny) (service_seen sources x)
service_begins s areas deny sources x user e =
    ap (λ (u : List Object). rules_to_come s areas u deny x.rules.now) e
    ∙ given_by_those (is_action deny) (rule_items s areas (objects_of s areas [] (service_seen sources x).user)) (map rule_seen x.rules.now)

-- a service without a rule of the action lists nothing
none_pass : {A B : Type 0} (test : B → Bool) (f : A → B) (xs : List A) → list_any (λ x. test (f x)) xs ≡ false → filter test (map f xs) ≡ []
none_pass test f [] h = refl
none_pass {A} {B} test f (x ∷ xs) h = by (none_pass test f xs) (test (f x)) h
  where
    by : (list_any (λ y. test (f y)) xs ≡ false → filter test (map f xs) ≡ []) → (b : Bool) → (b || list_any (λ y. test (f y)) xs) ≡ false → cond b (f x ∷ filter test (map f xs)) (filter test (map f xs)) ≡ []
    by others true h = absurd (false≢true (sym h))
    by others false h = others h

pub nothing_listed : (s : Site) (areas : List (List ℕ)) (deny : Bool) (sources : List Source) (x : Service) (has : Bool) → has ≡ list_any (λ r. is_action deny (rule_seen r)) x.rules.now → has ≡ false →
    service_items s areas (is_action deny) (service_seen sources x) ≡ []
nothing_listed s areas deny sources x has e h =
    ap (flat_map (rule_items s areas (objects_of s areas [] (service_seen sources x).user))) (none_pass (is_action deny) rule_seen x.rules.now (sym e ∙ h))

pub policy_begins : (s : Site) (areas : List (List ℕ)) (deny : Bool) (sources : List Source) (services : List Service) → map (service_seen sources) services ≡ s.policy.services →
    services_to_come s areas deny sources services ≡ listed deny s areas
policy_begins s areas deny sources services e = ap (λ l. flat_map (service_items s areas (is_action deny)) l) e

-- ---- lists that grow

pub more_behind : {A B : Type 0} (F : List A → List B) (f : A → List B) (next : (x : A) (xs : List A) → F (x ∷ xs) ≡ f x ++ F xs) (xs : List A) (k : ℕ) (d : A) (old new all : List B) →
    k < length xs → d ≡ slice_index_or xs k d → new ≡ old ++ f d → old ++ F (drop k xs) ≡ all → new ++ F (drop (k + 1) xs) ≡ all
more_behind {A} {B} F f next xs k d old new all h is e so_far =
    ap (λ (l : List B). l ++ F (drop (k + 1) xs)) (e ∙ ap (λ (x : A). old ++ f x) is)
    ∙ (append_assoc old (f (slice_index_or xs k d)) (F (drop (k + 1) xs))
    ∙ (ap (λ (l : List B). old ++ l) (sym (ap F (left_at xs k d h) ∙ next (slice_index_or xs k d) (drop (k + 1) xs))) ∙ so_far))

pub all_behind : {A B : Type 0} (F : List A → List B) (xs : List A) (k : ℕ) (found all : List B) → F [] ≡ [] → length xs ≤ k → found ++ F (drop k xs) ≡ all → found ≡ all
all_behind {A} {B} F xs k found all none h so_far =
    sym (ap (λ (l : List A). found ++ F l) (nothing_left xs k h) ∙ (ap (λ (l : List B). found ++ l) none ∙ append-nil found)) ∙ so_far

-- all that are left pass: so do those behind the next one, and it does
pub rest_sound : {A : Type 0} (test : A → Bool) (xs : List A) (k : ℕ) (d : A) → k < length xs → list_all test (drop k xs) ≡ true → list_all test (drop (k + 1) xs) ≡ true
rest_sound test xs k d h all = (and_parts (test (slice_index_or xs k d)) (list_all test (drop (k + 1) xs)) (ap (list_all test) (sym (left_at xs k d h)) ∙ all)).1

pub next_sound : {A : Type 0} (test : A → Bool) (xs : List A) (k : ℕ) (d : A) → k < length xs → d ≡ slice_index_or xs k d → list_all test (drop k xs) ≡ true → test d ≡ true
next_sound test xs k d h is all = ap test is ∙ (and_parts (test (slice_index_or xs k d)) (list_all test (drop (k + 1) xs)) (ap (list_all test) (sym (left_at xs k d h)) ∙ all)).0

-- ---- counts

pub count_more : {A B : Type 0} (F : List A → List B) (f : A → List B) (next : (x : A) (xs : List A) → F (x ∷ xs) ≡ f x ++ F xs) (xs : List A) (k : ℕ) (d : A) (most old new one : ℕ) (all : ℕ) →
    k < length xs → d ≡ slice_index_or xs k d → one ≡ min (length (f d)) most → new ≡ min (old + one) most → min (old + length (F (drop k xs))) most ≡ all →
    min (new + length (F (drop (k + 1) xs))) most ≡ all
count_more {A} {B} F f next xs k d most old new one all h is e g so_far =
    let left = ap (λ (l : List A). length (F l)) (left_at xs k d h) in
    let both = ap length (next (slice_index_or xs k d) (drop (k + 1) xs)) in
    let long = length-append (f (slice_index_or xs k d)) (F (drop (k + 1) xs)) in
    let same = ap (λ (x : A). length (f x)) is in
    omega (arith, left, both, long, same, e, g, so_far)

pub count_end : {A B : Type 0} (F : List A → List B) (xs : List A) (k most count all : ℕ) → F [] ≡ [] → length xs ≤ k → count ≤ most → min (count + length (F (drop k xs))) most ≡ all → count ≡ all
count_end {A} {B} F xs k most count all none h fits so_far =
    let left = ap (λ (l : List A). length (F l)) (nothing_left xs k h) ∙ ap length none in
    omega (arith, left, fits, so_far)

pub service_sound_at : (p : Policy) (sources : List Source) (services : List Service) (k : ℕ) (x : Service) → k < length services → x ≡ slice_index_or services k x → sound_services p sources services ≡ true →
    is_sound_service p (service_seen sources x) ≡ true
service_sound_at p sources services k x h is all = ap (λ (y : Service). is_sound_service p (service_seen sources y)) is ∙ at services k h all
  where
    at : (xs : List Service) (k : ℕ) → k < length xs → sound_services p sources xs ≡ true → is_sound_service p (service_seen sources (slice_index_or xs k x)) ≡ true
    at [] k h all = absurd (omega (arith, h))
    at (y ∷ ys) zero h all = (and_parts (is_sound_service p (service_seen sources y)) (sound_services p sources ys) all).0
    at (y ∷ ys) (suc k) h all = at ys k (omega (arith, h)) (and_parts (is_sound_service p (service_seen sources y)) (sound_services p sources ys) all).1
