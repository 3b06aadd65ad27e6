-- Rows of boxes, from which one is taken and into which one is put.
use Rattle.std.proofs.Common.{◌≡◌, ◌∙◌, ℕ, Bool, true, false, cond, ◌&&◌, List, [], ◌∷◌, ◌++◌, map, refl, sym, ap, append-nil}
use Rattle.std.specs.Prelude.{◌==◌, Option, Some, None}
use Rattle.std.specs.Global.{Vec}
use Rattle.std.proofs.lemmas.Bool.{and_parts, eqb-true, eq-eqb}
use Rattle.spoc_base.specs.Pieces.{HeaderBox}
use Rattle.policy_model.specs.Permits.{Permit, box_of_permit}
use Rattle.list_laws.proofs.Members.{same_truth}
use Rattle.box_algebra.specs.Shown.{header_box_of}
use Rattle.box_algebra.specs.declared.boxes.Box4.{Box4}
use Rattle.permit_pieces.specs.Left.{boxes_between}
use Rattle.permit_pieces.specs.Rows.{boxes_of}

pub taken_out : (met : Bool) (row : Option (Vec Box4)) → boxes_of (cond met None row) ≡ cond met [] (boxes_of row)
taken_out true row = refl
taken_out false row = refl

pub put_in : (met : Bool) (put : Vec Box4) (row : Option (Vec Box4)) → boxes_of (cond met (Some put) row) ≡ cond met (map header_box_of put.items) (boxes_of row)
put_in true put row = refl
put_in false put row = refl

turned : (m n : ℕ) → (m == n) ≡ (n == m)
turned m n = same_truth (m == n) (n == m) (λ t. eq-eqb n m (sym (eqb-true m n t))) (λ t. eq-eqb m n (sym (eqb-true n m t)))

-- a row that was taken out is put back with one more denial
pub one_behind : (table : ℕ → ℕ → List HeaderBox) (d : Permit) (src dst : ℕ) (row found before : List HeaderBox) → found ≡ cond ((d.src.net == src) && (d.dst.net == dst)) row before →
    before ≡ cond ((d.src.net == src) && (d.dst.net == dst)) [] (table src dst) → row ≡ table d.src.net d.dst.net ++ box_of_permit d ∷ [] → found ≡ table src dst ++ boxes_between (d ∷ []) src dst
one_behind table d src dst row found before e f g = by ((d.src.net == src) && (d.dst.net == dst)) refl
  where
    same : ((d.src.net == src) && (d.dst.net == dst)) ≡ ((src == d.src.net) && (dst == d.dst.net))
    same = ap (λ (c : Bool). c && (d.dst.net == dst)) (turned d.src.net src) ∙ ap (λ (c : Bool). (src == d.src.net) && c) (turned d.dst.net dst)

    by : (met : Bool) → ((d.src.net == src) && (d.dst.net == dst)) ≡ met → found ≡ table src dst ++ map box_of_permit (cond ((src == d.src.net) && (dst == d.dst.net)) (d ∷ []) [])
    by true h =
        let both = and_parts (d.src.net == src) (d.dst.net == dst) h in
        e ∙ (ap (λ (c : Bool). cond c row before) h ∙ (g
        ∙ (ap (λ (n : ℕ). table n d.dst.net ++ box_of_permit d ∷ []) (eqb-true d.src.net src both.0) ∙ (ap (λ (n : ℕ). table src n ++ box_of_permit d ∷ []) (eqb-true d.dst.net dst both.1)
        ∙ ap (λ (c : Bool). table src dst ++ map box_of_permit (cond c (d ∷ []) [])) (sym h ∙ same)))))
    by false h =
        e ∙ (ap (λ (c : Bool). cond c row before) h ∙ (f ∙ (ap (λ (c : Bool). cond c [] (table src dst)) h
        ∙ (sym (append-nil (table src dst)) ∙ ap (λ (c : Bool). table src dst ++ map box_of_permit (cond c (d ∷ []) [])) (sym h ∙ same)))))
