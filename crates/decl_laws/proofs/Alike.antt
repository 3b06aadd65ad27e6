-- A rule with its first protocols alone counts as the whole one.
use Rattle.std.proofs.Common.{◌≡◌, ◌∙◌, refl, sym, ap, subst, arith, ℕ, zero, suc, Bool, true, false, ltb, ◌+◌, ◌<◌, ◌≤◌, ◌⊎◌, inl, inr, List, [], ◌∷◌, ◌++◌, length, map, take}
use Rattle.std.specs.Prelude.{flat_map}
use Rattle.std.proofs.lemmas.List.{length-append, length-map, length-take-le, take_all}
use Rattle.std.proofs.lemmas.Bool.{ltb-false, ltb-true}
use Rattle.spoc_base.specs.Boxes.{TransportBox}
use Rattle.policy_model.specs.Policy.{Rule}
use Rattle.policy_model.specs.Zones.{Site}
use Rattle.policy_model.specs.Objects.{Object}
use Rattle.policy_model.specs.Permits.{Permit, End, ends_in, rule_items}
use Rattle.policy_model.specs.FirstFault.{most_items}
use Rattle.spoc_ast.specs.Written.{RuleText, DeclText}
use Rattle.policy_decls.specs.Said.{expr_in, boxes_in, most_nested, most_boxes, rule_in, whole_rule}
use Rattle.decl_laws.specs.Alike.{AreAlike}

abbrev items_to : End → List TransportBox → List End → List Permit
items_to src boxes dsts = flat_map (λ dst. map (λ box. record { src = src; dst = dst; box = box }) boxes) dsts

abbrev items : List TransportBox → List End → List End → List Permit
items boxes srcs dsts = flat_map (λ src. items_to src boxes dsts) srcs

-- what lists nothing lists nothing whatever the protocols
no_ends : (boxes : List TransportBox) (srcs : List End) → items boxes srcs [] ≡ []
no_ends boxes [] = refl
no_ends boxes (x ∷ xs) = no_ends boxes xs

-- each protocol is listed with the first source and the first destination
listed : (boxes : List TransportBox) (x y : End) (xs ys : List End) → length boxes ≤ length (items boxes (x ∷ xs) (y ∷ ys))
listed boxes x y xs ys =
    let permit : TransportBox → Permit = λ box. record { src = x; dst = y; box = box } in
    let one : List Permit = map permit boxes in
    let a = length-append (items_to x boxes (y ∷ ys)) (items boxes xs (y ∷ ys)) in
    let b = length-append one (items_to x boxes ys) in
    let c = length-map boxes permit in
    omega (arith, a, b, c)

module _ (most : ℕ) (boxes : List TransportBox) where
  kept_same : (srcs dsts : List End) → length (items boxes srcs dsts) ≤ most → items (take (suc most) boxes) srcs dsts ≡ items boxes srcs dsts
  kept_same [] dsts h = refl
  kept_same (x ∷ xs) [] h = no_ends (take (suc most) boxes) xs ∙ sym (no_ends boxes xs)
  kept_same (x ∷ xs) (y ∷ ys) h =
      let l = listed boxes x y xs ys in
      ap (λ b. items b (x ∷ xs) (y ∷ ys)) (take_all (suc most) boxes (omega (arith, l, h)))

  kept_over : (srcs dsts : List End) → most < length (items boxes srcs dsts) → most < length (items (take (suc most) boxes) srcs dsts)
  kept_over [] dsts h = absurd (omega (arith, h))
  kept_over (x ∷ xs) [] h = let e = ap length (no_ends boxes xs) in absurd (omega (arith, h, e))
  kept_over (x ∷ xs) (y ∷ ys) h = by_length (ltb most (length boxes)) refl
    where
      by_length : (b : Bool) → ltb most (length boxes) ≡ b → most < length (items (take (suc most) boxes) (x ∷ xs) (y ∷ ys))
      by_length true e =
          let l = listed (take (suc most) boxes) x y xs ys in
          let n = ltb-true most (length boxes) e in
          let k = length-take-le (suc most) boxes (omega (arith, n)) in
          omega (arith, l, k)
      by_length false e =
          let n = ltb-false most (length boxes) e in
          subst (λ b. most < length (items b (x ∷ xs) (y ∷ ys))) (sym (take_all (suc most) boxes (omega (arith, n)))) h

one_more : most_boxes ≡ suc most_items
unfolding most_boxes
one_more = refl

pub alike : (decls : List DeclText) (rule : RuleText) (s : Site) (areas : List (List ℕ)) (user : List Object) → AreAlike s areas user (rule_in decls rule) (whole_rule decls rule)
alike decls rule s areas user =
    let boxes = flat_map (boxes_in decls most_nested) rule.prts in
    let srcs = ends_in s areas user (expr_in decls rule.src) in
    let dsts = ends_in s areas user (expr_in decls rule.dst) in
    record {
      same = λ h. ap (λ n. items (take n boxes) srcs dsts) one_more ∙ kept_same most_items boxes srcs dsts h;
      over = λ h. subst (λ n. most_items < length (items (take n boxes) srcs dsts)) (sym one_more) (kept_over most_items boxes srcs dsts h);
    }
