-- The objects of a union, part by part.
use Rattle.std.proofs.Common.{◌≡◌, ◌∙◌, ◌+◌, ◌<◌, drop, length, slice_index_or, refl, sym, ap, Bool, true, false, ◌&&◌, ℕ, List, [], ◌∷◌, ◌++◌, map}
use Rattle.group_expand.proofs.Loops.{left_at}
use Rattle.std.specs.List.{list_all}
use Rattle.std.proofs.lemmas.Bool.{and_parts}
use Rattle.policy_model.specs.Policy.{Policy, ObjectExpr}
use Rattle.policy_model.specs.Objects.{Object, object_set}
use Rattle.topology.specs.declared.sets.Union.{Union, out-Union}
use Rattle.topology.specs.declared.sets.Inter.{Inter, out-Inter}
use Rattle.topology.specs.declared.sets.Further.{Further}
use Rattle.topology.specs.Expressions.{expr_of, part_of, term_of, kept}
use Rattle.topology.specs.Sound.{is_sound_expr}
use Rattle.group_expand.specs.declared.scope.Scope.{Scope}
use Rattle.group_expand.specs.Scope.{objects_in}
use Rattle.group_expand.specs.Sets.{with_objects, narrowed_by}
use Rattle.group_expand.proofs.SetLaws.{gathered, grown_by_set, grown_by_both, set_of_set}
use Rattle.group_expand.proofs.UnionRows.{joined_all, narrowed_all, union_row, part_row}

-- ---- soundness

abbrev pub sound_parts : Policy → List Inter → Bool
sound_parts p parts = list_all (λ part. is_sound_expr p true true (part_of part)) parts

abbrev pub sound_terms : Policy → List Further → Bool
sound_terms p terms = list_all (λ f. is_sound_expr p true true (term_of f.term)) terms

joined_sound : (p : Policy) (parts : List Inter) → is_sound_expr p true true (joined_all (map part_of parts)) ≡ sound_parts p parts
joined_sound p [] = refl
joined_sound p (x ∷ xs) = ap (λ (b : Bool). is_sound_expr p true true (part_of x) && b) (joined_sound p xs)

pub union_sound : (p : Policy) (set : Union) → is_sound_expr p true true (expr_of set) ≡ sound_parts p (out-Union set).parts.now
union_sound p set = ap (is_sound_expr p true true) (union_row set) ∙ joined_sound p (out-Union set).parts.now

and_assoc : (a b c : Bool) → ((a && b) && c) ≡ (a && (b && c))
and_assoc true b c = refl
and_assoc false b c = refl

and_true : (a : Bool) → a ≡ (a && true)
and_true true = refl
and_true false = refl

kept_sound : (p : Policy) (without : Bool) (e f : ObjectExpr) → is_sound_expr p true true (kept without e f) ≡ (is_sound_expr p true true e && is_sound_expr p true true f)
kept_sound p true e f = refl
kept_sound p false e f = refl

narrowed_sound : (p : Policy) (e : ObjectExpr) (fs : List Further) → is_sound_expr p true true (narrowed_all e fs) ≡ (is_sound_expr p true true e && sound_terms p fs)
narrowed_sound p e [] = and_true (is_sound_expr p true true e)
narrowed_sound p e (f ∷ fs) =
    narrowed_sound p (kept f.without e (term_of f.term)) fs ∙ (ap (λ (b : Bool). b && sound_terms p fs) (kept_sound p f.without e (term_of f.term))
    ∙ and_assoc (is_sound_expr p true true e) (is_sound_expr p true true (term_of f.term)) (sound_terms p fs))

pub part_sound : (p : Policy) (part : Inter) → is_sound_expr p true true (part_of part) ≡ (is_sound_expr p true true (term_of (out-Inter part).first) && sound_terms p (out-Inter part).rest.now)
part_sound p part = ap (is_sound_expr p true true) (part_row part) ∙ narrowed_sound p (term_of (out-Inter part).first) (out-Inter part).rest.now

-- ---- objects

-- the objects of the parts to come
abbrev pub objects_to_come : Scope → List Inter → List Object
objects_to_come scope parts = objects_in scope (joined_all (map part_of parts))

set_to_come : (scope : Scope) (parts : List Inter) → object_set (objects_to_come scope parts) ≡ objects_to_come scope parts
set_to_come scope [] = refl
set_to_come scope (x ∷ xs) = set_of_set (objects_in scope (part_of x) ++ objects_to_come scope xs)

pub union_begins : (scope : Scope) (set : Union) → with_objects [] (objects_to_come scope (out-Union set).parts.now) ≡ objects_in scope (expr_of set)
union_begins scope set =
    gathered (objects_to_come scope (out-Union set).parts.now) ∙ (set_to_come scope (out-Union set).parts.now ∙ sym (ap (objects_in scope) (union_row set)))

pub union_goes_on : (scope : Scope) (old new objects : List Object) (part : Inter) (parts : List Inter) → new ≡ with_objects old objects → objects ≡ objects_in scope (part_of part) →
    with_objects new (objects_to_come scope parts) ≡ with_objects old (objects_to_come scope (part ∷ parts))
union_goes_on scope old new objects part parts e f =
    ap (λ (l : List Object). with_objects l (objects_to_come scope parts)) (e ∙ ap (with_objects old) f)
    ∙ (sym (grown_by_both old (objects_in scope (part_of part)) (objects_to_come scope parts))
    ∙ sym (grown_by_set old (objects_in scope (part_of part) ++ objects_to_come scope parts)))

-- what further terms leave of a set
abbrev pub left_by : Scope → List Object → List Further → List Object
left_by scope xs [] = xs
left_by scope xs (f ∷ fs) = left_by scope (narrowed_by f.without xs (objects_in scope (term_of f.term))) fs

kept_objects : (scope : Scope) (without : Bool) (e f : ObjectExpr) → objects_in scope (kept without e f) ≡ narrowed_by without (objects_in scope e) (objects_in scope f)
kept_objects scope true e f = refl
kept_objects scope false e f = refl

narrowed_objects : (scope : Scope) (e : ObjectExpr) (fs : List Further) → left_by scope (objects_in scope e) fs ≡ objects_in scope (narrowed_all e fs)
narrowed_objects scope e [] = refl
narrowed_objects scope e (f ∷ fs) =
    ap (λ (l : List Object). left_by scope l fs) (sym (kept_objects scope f.without e (term_of f.term))) ∙ narrowed_objects scope (kept f.without e (term_of f.term)) fs

pub part_begins : (scope : Scope) (part : Inter) (first : List Object) → first ≡ objects_in scope (term_of (out-Inter part).first) → left_by scope first (out-Inter part).rest.now ≡ objects_in scope (part_of part)
part_begins scope part first e =
    ap (λ (l : List Object). left_by scope l (out-Inter part).rest.now) e
    ∙ (narrowed_objects scope (term_of (out-Inter part).first) (out-Inter part).rest.now ∙ sym (ap (objects_in scope) (part_row part)))

pub part_goes_on : (scope : Scope) (old new others : List Object) (f : Further) (fs : List Further) → new ≡ narrowed_by f.without old others → others ≡ objects_in scope (term_of f.term) →
    left_by scope new fs ≡ left_by scope old (f ∷ fs)
part_goes_on scope old new others f fs e g = ap (λ (l : List Object). left_by scope l fs) (e ∙ ap (narrowed_by f.without old) g)

-- ---- the items of loops

pub first_sound : (p : Policy) (part : Inter) → is_sound_expr p true true (part_of part) ≡ true → is_sound_expr p true true (term_of (out-Inter part).first) ≡ true
first_sound p part h =
    (and_parts (is_sound_expr p true true (term_of (out-Inter part).first)) (sound_terms p (out-Inter part).rest.now) (sym (part_sound p part) ∙ h)).0

pub next_term_sound : (p : Policy) (fs : List Further) (k : ℕ) (f : Further) → k < length fs → f ≡ slice_index_or fs k f → sound_terms p (drop k fs) ≡ true → is_sound_expr p true true (term_of f.term) ≡ true
next_term_sound p fs k f h is all =
    ap (λ (x : Further). is_sound_expr p true true (term_of x.term)) is
    ∙ (and_parts (is_sound_expr p true true (term_of (slice_index_or fs k f).term)) (sound_terms p (drop (k + 1) fs)) (ap (sound_terms p) (sym (left_at fs k f h)) ∙ all)).0

pub parts_left_sound : (p : Policy) (parts : List Inter) (k : ℕ) (part : Inter) → k < length parts → sound_parts p (drop k parts) ≡ true → sound_parts p (drop (k + 1) parts) ≡ true
parts_left_sound p parts k part h all =
    (and_parts (is_sound_expr p true true (part_of (slice_index_or parts k part))) (sound_parts p (drop (k + 1) parts)) (ap (sound_parts p) (sym (left_at parts k part h)) ∙ all)).1

pub parts_on : (scope : Scope) (old new objects all : List Object) (parts : List Inter) (k : ℕ) (part : Inter) → k < length parts → part ≡ slice_index_or parts k part → new ≡ with_objects old objects →
    objects ≡ objects_in scope (part_of part) → with_objects old (objects_to_come scope (drop k parts)) ≡ all → with_objects new (objects_to_come scope (drop (k + 1) parts)) ≡ all
parts_on scope old new objects all parts k part h is e f so_far =
    union_goes_on scope old new objects part (drop (k + 1) parts) e f
    ∙ (ap (λ (x : Inter). with_objects old (objects_to_come scope (x ∷ drop (k + 1) parts))) is
    ∙ (ap (λ (l : List Inter). with_objects old (objects_to_come scope l)) (sym (left_at parts k part h)) ∙ so_far))
