-- Lists of objects, and tests that agree on them.
use Rattle.policy_model.specs.Policy.{Policy}
use Rattle.std.proofs.Common.{◌≡◌, ℕ, zero, suc, ◌+◌, ◌<◌, drop, length, arith, Bool, true, false, cond, ◌||◌, List, [], ◌∷◌, ◌++◌, map, refl, ap, ◌∙◌}
use Rattle.std.specs.List.{list_any}
use Rattle.std.proofs.lemmas.Bool.{and_parts}
use Rattle.std.proofs.lemmas.List.{map-append}
use Rattle.policy_model.specs.Objects.{same_object, has_object}
use Rattle.group_expand.specs.declared.object.Object.{Object}
use Rattle.group_expand.specs.Sets.{object_seen, with_object, is_there, are_there}

module _ (eq : Object → Object → Bool) (same : (x y : Object) → eq x y ≡ same_object (object_seen x) (object_seen y)) where
  pub any_seen : (o : Object) (ks : List Object) → list_any (eq o) ks ≡ has_object (map object_seen ks) (object_seen o)
  any_seen o [] = refl
  any_seen o (k ∷ ks) = ap (λ (b : Bool). b || list_any (eq o) ks) (same o k) ∙ ap (λ (b : Bool). same_object (object_seen o) (object_seen k) || b) (any_seen o ks)

  pub inserted : (o : Object) (ks : List Object) → map object_seen (cond (list_any (eq o) ks) ks (ks ++ o ∷ [])) ≡ with_object (map object_seen ks) (object_seen o)
  inserted o ks = by (list_any (eq o) ks) (any_seen o ks)
    where
      by : (b : Bool) → b ≡ has_object (map object_seen ks) (object_seen o) → map object_seen (cond b ks (ks ++ o ∷ [])) ≡ with_object (map object_seen ks) (object_seen o)
      by true e = ap (λ (b : Bool). cond b (map object_seen ks) (map object_seen ks ++ object_seen o ∷ [])) e
      by false e = map-append object_seen ks (o ∷ []) ∙ ap (λ (b : Bool). cond b (map object_seen ks) (map object_seen ks ++ object_seen o ∷ [])) e

-- ---- objects that are there

pub there_rest : (p : Policy) (os : List Object) (k : ℕ) → k < length os → are_there p (map object_seen (drop k os)) ≡ true → are_there p (map object_seen (drop (k + 1) os)) ≡ true
there_rest p [] k h all = absurd (omega (arith, h))
there_rest p (o ∷ os) zero h all = (and_parts (is_there p (object_seen o)) (are_there p (map object_seen os)) all).1
there_rest p (o ∷ os) (suc k) h all =
    let e : suc k + 1 ≡ suc (k + 1) = omega arith in
    ap (λ (m : ℕ). are_there p (map object_seen (drop m (o ∷ os)))) e ∙ there_rest p os k (omega (arith, h)) all
