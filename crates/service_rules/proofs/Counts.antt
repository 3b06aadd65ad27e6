-- Counts that stop at the greatest number.
use Rattle.std.proofs.Common.{◌≡◌, ◌∙◌, ℕ, zero, suc, ◌+◌, ◌*◌, ◌<◌, ◌≤◌, List, [], ◌∷◌, map, flat_map, length, sym, ap, arith, ⊎_elim}
use Rattle.std.specs.Prelude.{min}
use Rattle.std.proofs.lemmas.List.{length-append, length-map}
use Rattle.std.proofs.lemmas.Bool.{cases_lt}
use Rattle.spoc_base.specs.Boxes.{TransportBox}
use Rattle.policy_model.specs.Objects.{Object}
use Rattle.policy_model.specs.Permits.{End, ends_of}
use Rattle.policy_model.specs.Zones.{Site}
use Rattle.permit_set.specs.declared.permit.End as code
use Rattle.permit_set.specs.Shown.{end_of}
use Rattle.service_rules.specs.Ends.{all_permits}

pub capped_sum : (a b most : ℕ) → min (min a most + min b most) most ≡ min (a + b) most
capped_sum a b most = omega arith

-- a product with a capped factor
pub capped_product : (a b most : ℕ) → min (a * min b most) most ≡ min (a * b) most
capped_product zero b most = omega arith
capped_product (suc a) b most = ⊎_elim (λ h. high h) (λ h. ap (λ (x : ℕ). min (suc a * x) most) (low h)) (cases_lt most b)
  where
    low : b ≤ most → min b most ≡ b
    low h = omega (arith, h)

    high : most < b → min (suc a * min b most) most ≡ min (suc a * b) most
    high h =
        let e : min b most ≡ most = omega (arith, h) in
        ap (λ (x : ℕ). min (suc a * x) most) e ∙ omega (arith, h)

length_flat : {A B : Type 0} (f : A → List B) (n : ℕ) → ((x : A) → length (f x) ≡ n) → (xs : List A) → length (flat_map f xs) ≡ length xs * n
length_flat f n same [] = omega arith
length_flat f n same (x ∷ xs) =
    let rest = length_flat f n same xs in
    let long = length-append (f x) (flat_map f xs) in
    let one = same x in
    omega (arith, long, one, rest)

pub length_all : (srcs dsts : List End) (boxes : List TransportBox) → length (all_permits srcs dsts boxes) ≡ length srcs * (length dsts * length boxes)
length_all srcs dsts boxes =
    length_flat (λ src. flat_map (λ dst. map (λ box. record { src = src; dst = dst; box = box }) boxes) dsts) (length dsts * length boxes)
    (λ src. length_flat (λ dst. map (λ box. record { src = src; dst = dst; box = box }) boxes) (length boxes) (λ dst. length-map boxes (λ box. record { src = src; dst = dst; box = box })) dsts) srcs

pub rule_count : (srcs dsts : List End) (boxes : List TransportBox) (a b c most inner count : ℕ) → a ≡ length srcs → b ≡ length dsts → c ≡ length boxes → inner ≡ min (b * c) most →
    count ≡ min (a * inner) most → count ≡ min (length (all_permits srcs dsts boxes)) most
rule_count srcs dsts boxes a b c most inner count e f g i is =
    is ∙ (ap (λ (x : ℕ). min (a * x) most) i ∙ (capped_product a (b * c) most
    ∙ (ap (λ (x : ℕ). min (x * (b * c)) most) e ∙ (ap (λ (x : ℕ). min (length srcs * (x * c)) most) f ∙ (ap (λ (x : ℕ). min (length srcs * (length dsts * x)) most) g
    ∙ ap (λ (x : ℕ). min x most) (sym (length_all srcs dsts boxes)))))))

-- how many ends some objects have
pub ends_counted : (items : List code.End) (objects same : List Object) (s : Site) (count : ℕ) → count ≡ length items → map end_of items ≡ flat_map (ends_of s) objects → objects ≡ same →
    count ≡ length (flat_map (ends_of s) same)
ends_counted items objects same s count e f g =
    e ∙ (sym (length-map items end_of) ∙ (ap length f ∙ ap (λ (l : List Object). length (flat_map (ends_of s) l)) g))

pub count_begins : (n m most : ℕ) → n ≡ m → min (0 + n) most ≡ min m most
count_begins n m most e = omega (arith, e)

pub none_counted : (n most : ℕ) → n ≡ 0 → 0 ≡ min n most
none_counted n most e = omega (arith, e)
