-- A row of faults whose things are listed in order: the first that passes the test is the row's first fault.
use Rattle.std.proofs.Common.{◌≡◌, ℕ, ◌<◌, Bool, true, false, not, List, Option, Some, None, refl, sym, ap, subst, ◌∙◌, ⊎_elim, arith}
use Rattle.std.specs.Prelude.{◌↔◌, find, nat_lt, option_map}
use Rattle.std.proofs.lemmas.Bool.{false≢true, not-true, not_from_false, false_from_ne_true, ltb-true, lt-ltb}
use Rattle.policy_model.specs.FirstFault.{FaultCase, HasFault, is_lower, order_of}
use Rattle.policy_model.specs.Headline.{Meaning, permits_in}
use Rattle.policy_model.proofs.AllWalks.{IsIn}
use Rattle.topology.specs.First.{row_of, IsWithin, HasNone, IsFirstWithin}
use Rattle.fault_laws.specs.Cases.{IsFirstCase, first_case, case_if}
use Rattle.fault_laws.proofs.Orders.{InOrder, IsFound, found_first, found_none}
use Rattle.fault_laws.proofs.Shapes.{not_both}
use Rattle.fault_laws.proofs.Joins.{none_isnt_some, some_isnt_none, same_fault}

-- The faults of a row are those of the listed things that pass.
pub record AreListed (m : Meaning) (r : ℕ) (A : Type 0) (as_fault : A → FaultCase) (test : A → Bool) (items : List A) (Before : A → A → Type 0) : Type 0 where
  pub row : (x : A) → row_of (as_fault x) ≡ r
  pub each : (f : FaultCase) → row_of f ≡ r → HasFault m f → (x : A) × (f ≡ as_fault x)
  pub sound : (x : A) → IsIn x items → test x ≡ true → HasFault m (as_fault x)
  pub listed : (x : A) → HasFault m (as_fault x) → IsIn x items × (test x ≡ true)
  pub order : InOrder Before items
  pub lower : (x y : A) → test x ≡ true → test y ≡ true → Before x y → is_lower (order_of (permits_in m) (as_fault x)) (order_of (permits_in m) (as_fault y)) ≡ true

module _ (m : Meaning) where
  abbrev NotBefore : FaultCase → FaultCase → Type 0
  NotBefore g f = not (is_lower (order_of (permits_in m) g) (order_of (permits_in m) f)) ≡ true

  not_before : (f g : FaultCase) → is_lower (order_of (permits_in m) f) (order_of (permits_in m) g) ≡ true → NotBefore g f
  not_before f g h = not_from_false (is_lower (order_of (permits_in m) g) (order_of (permits_in m) f))
      (false_from_ne_true (is_lower (order_of (permits_in m) g) (order_of (permits_in m) f)) (λ low. not_both (order_of (permits_in m) g) (order_of (permits_in m) f) low h))

  not_itself : (f : FaultCase) → NotBefore f f
  not_itself f = not_from_false (is_lower (order_of (permits_in m) f) (order_of (permits_in m) f))
      (false_from_ne_true (is_lower (order_of (permits_in m) f) (order_of (permits_in m) f)) (λ low. not_both (order_of (permits_in m) f) (order_of (permits_in m) f) low low))

  of_row : (r : ℕ) (f : FaultCase) → IsWithin r r f → row_of f ≡ r
  of_row r f w = let l = w.lower in let u = w.upper in omega (arith, l, u)

  in_row : (r : ℕ) (f : FaultCase) → row_of f ≡ r → IsWithin r r f
  in_row r f e = record { lower = omega (arith, e); upper = omega (arith, e) }

  module _ (r : ℕ) (A : Type 0) (as_fault : A → FaultCase) (test : A → Bool) (items : List A) (Before : A → A → Type 0) (w : AreListed m r A as_fault test items Before) where
    -- the listed thing of a fault of the row
    its_item : (f : FaultCase) → IsWithin r r f → HasFault m f → (x : A) × (f ≡ as_fault x) × IsIn x items × (test x ≡ true)
    its_item f within h =
        let v = w.each f (of_row r f within) h in
        let l = w.listed v.0 (subst (λ (g : FaultCase). HasFault m g) v.1 h) in
        (v.0, v.1, l.0, l.1)

    none_there : find test items ≡ None → HasNone m r r
    none_there e f within h = let v = its_item f within h in found_none test items e v.0 v.2 v.3

    first_there : (x : A) → IsFound Before test items x → IsFirstWithin m r r (as_fault x)
    first_there x v = record {
      within = in_row r (as_fault x) (w.row x);
      there = w.sound x v.listed v.passes;
      first = λ g within h.
          let u = its_item g within h in
          subst (λ (f : FaultCase). NotBefore f (as_fault x)) (sym u.1)
          (⊎_elim (λ same. subst (λ (y : A). NotBefore (as_fault y) (as_fault x)) (sym same) (not_itself (as_fault x))) (λ before. not_before (as_fault x) (as_fault u.0) (w.lower x u.0 v.passes u.3 before)) (v.first u.0 u.2 u.3));
    }

    -- the first fault is the one that is found
    is_found : (x : A) → IsFound Before test items x → (f : FaultCase) → IsFirstWithin m r r f → as_fault x ≡ f
    is_found x v f first =
        let u = its_item f first.within first.there in
        ⊎_elim (λ same. ap as_fault (sym same) ∙ sym u.1)
        (λ before. absurd (false≢true (sym (not-true (is_lower (order_of (permits_in m) (as_fault x)) (order_of (permits_in m) f)) (first.first (as_fault x) (in_row r (as_fault x) (w.row x)) (w.sound x v.listed v.passes)))
        ∙ subst (λ (g : FaultCase). is_lower (order_of (permits_in m) (as_fault x)) (order_of (permits_in m) g) ≡ true) (sym u.1) (w.lower x u.0 v.passes u.3 before))))
        (v.first u.0 u.2 u.3)

    by_found : (o : Option A) → find test items ≡ o → IsFirstCase m r r (option_map as_fault o)
    by_found None e = record {
      none = (λ n. refl, λ h. none_there e);
      first = λ f. (λ first. absurd (none_there e f first.within first.there), λ h. absurd (none_isnt_some f h));
    }
    by_found (Some x) e =
        let v = found_first Before test items w.order x e in
        record {
          none = (λ n. absurd (n (as_fault x) (in_row r (as_fault x) (w.row x)) (w.sound x v.listed v.passes)), λ h. absurd (some_isnt_none (as_fault x) h));
          first = λ f. (
            λ first. ap Some (is_found x v f first),
            λ h. subst (λ (g : FaultCase). IsFirstWithin m r r g) (same_fault (as_fault x) f h) (first_there x v),
          );
        }

    pub listed_first : IsFirstCase m r r (first_case as_fault test items)
    listed_first = by_found (find test items) refl

  -- a row of one fault
  module _ (r : ℕ) (f : FaultCase) (row : row_of f ≡ r) (only : (g : FaultCase) → row_of g ≡ r → g ≡ f) where
    by_test : (b : Bool) → (HasFault m f ↔ (b ≡ true)) → IsFirstCase m r r (case_if b f)
    by_test true h =
        let there : HasFault m f = h.1 refl in
        let first : IsFirstWithin m r r f = record {
          within = in_row r f row;
          there = there;
          first = λ g within t. subst (λ (x : FaultCase). NotBefore x f) (sym (only g (of_row r g within))) (not_itself f);
        } in
        record {
          none = (λ n. absurd (n f (in_row r f row) there), λ e. absurd (some_isnt_none f e));
          first = λ g. (λ w. ap Some (sym (only g (of_row r g w.within))), λ e. subst (λ (x : FaultCase). IsFirstWithin m r r x) (same_fault f g e) first);
        }
    by_test false h =
        let none : HasNone m r r = λ g within t. false≢true (h.0 (subst (λ (x : FaultCase). HasFault m x) (only g (of_row r g within)) t)) in
        record { none = (λ n. refl, λ e. none); first = λ g. (λ w. absurd (none g w.within w.there), λ e. absurd (none_isnt_some g e)) }

    -- which is there where a count passes a limit
    pub limit_first : (limit count : ℕ) → (HasFault m f ↔ (limit < count)) → IsFirstCase m r r (case_if (nat_lt limit count) f)
    limit_first limit count h = by_test (nat_lt limit count) (λ t. lt-ltb limit count (h.0 t), λ t. h.1 (ltb-true limit count t))
