-- The first fault of rows that stand side by side.
use Rattle.std.proofs.Common.{◌≡◌, ℕ, ◌+◌, ◌<◌, ◌≤◌, true, not, Option, Some, None, refl, sym, ap, ◌∙◌, ⊎_elim, arith}
use Rattle.std.specs.Prelude.{is_some}
use Rattle.std.specs.Option.{option_or}
use Rattle.std.proofs.lemmas.Bool.{false≢true, not-true, not_from_false, false_from_ne_true, cases_lt}
use Rattle.policy_model.specs.FirstFault.{FaultCase, is_lower, order_of}
use Rattle.policy_model.specs.Headline.{Meaning, permits_in}
use Rattle.topology.specs.First.{row_of, HasNone, IsFirstWithin}
use Rattle.fault_laws.specs.Cases.{IsFirstCase}
use Rattle.fault_laws.proofs.Shapes.{lower_row, not_both}

pub none_isnt_some : (f : FaultCase) → None ≡ Some f → ⊥
none_isnt_some f e = false≢true (ap is_some e)

pub some_isnt_none : (f : FaultCase) → Some f ≡ None → ⊥
some_isnt_none f e = none_isnt_some f (sym e)

pub same_fault : (f g : FaultCase) → Some f ≡ Some g → f ≡ g
same_fault f g e = ap (go f) e
  where
    go : FaultCase → Option FaultCase → FaultCase
    go d None = d
    go d (Some h) = h

module _ (m : Meaning) where
  -- g doesn't come before f
  abbrev NotBefore : FaultCase → FaultCase → Type 0
  NotBefore g f = not (is_lower (order_of (permits_in m) g) (order_of (permits_in m) f)) ≡ true

  not_later : (f g : FaultCase) → row_of f < row_of g → NotBefore g f
  not_later f g h = not_from_false (is_lower (order_of (permits_in m) g) (order_of (permits_in m) f))
      (false_from_ne_true (is_lower (order_of (permits_in m) g) (order_of (permits_in m) f)) (λ low. not_both (order_of (permits_in m) g) (order_of (permits_in m) f) low (lower_row (permits_in m) f g h)))

  not_earlier : (f g : FaultCase) → row_of g < row_of f → NotBefore g f → ⊥
  not_earlier f g h later = false≢true (sym (not-true (is_lower (order_of (permits_in m) g) (order_of (permits_in m) f)) later) ∙ lower_row (permits_in m) g f h)

  module _ (lowest middle highest : ℕ) (low : lowest ≤ middle + 1) (high : middle ≤ highest) where
    both_none : HasNone m lowest middle → HasNone m (middle + 1) highest → HasNone m lowest highest
    both_none a b f w h =
        ⊎_elim (λ (above : middle < row_of f). b f (record { lower = omega (arith, above); upper = w.upper }) h)
        (λ (below : row_of f ≤ middle). a f (record { lower = w.lower; upper = below }) h)
        (cases_lt middle (row_of f))

    front_none : HasNone m lowest highest → HasNone m lowest middle
    front_none n f w h = let u = w.upper in n f (record { lower = w.lower; upper = omega (arith, u, high) }) h

    back_none : HasNone m lowest highest → HasNone m (middle + 1) highest
    back_none n f w h = let l = w.lower in n f (record { lower = omega (arith, l, low); upper = w.upper }) h

    -- the first one is in the lower rows
    front_first : (f : FaultCase) → IsFirstWithin m lowest middle f → IsFirstWithin m lowest highest f
    front_first f w =
        let u = w.within.upper in
        record {
          within = record { lower = w.within.lower; upper = omega (arith, u, high) };
          there = w.there;
          first = λ g within h. ⊎_elim (λ (above : middle < row_of g). not_later f g (omega (arith, above, u)))
              (λ (below : row_of g ≤ middle). w.first g (record { lower = within.lower; upper = below }) h) (cases_lt middle (row_of g));
        }

    to_front : (f : FaultCase) → row_of f ≤ middle → IsFirstWithin m lowest highest f → IsFirstWithin m lowest middle f
    to_front f below w = record {
      within = record { lower = w.within.lower; upper = below };
      there = w.there;
      first = λ g within h. let u = within.upper in w.first g (record { lower = within.lower; upper = omega (arith, u, high) }) h;
    }

    -- the first one is in the upper rows, and the lower ones have none
    back_first : (f : FaultCase) → HasNone m lowest middle → IsFirstWithin m (middle + 1) highest f → IsFirstWithin m lowest highest f
    back_first f none w =
        let l = w.within.lower in
        record {
          within = record { lower = omega (arith, l, low); upper = w.within.upper };
          there = w.there;
          first = λ g within h. ⊎_elim (λ (above : middle < row_of g). w.first g (record { lower = omega (arith, above); upper = within.upper }) h)
              (λ (below : row_of g ≤ middle). absurd (none g (record { lower = within.lower; upper = below }) h)) (cases_lt middle (row_of g));
        }

    to_back : (f : FaultCase) → middle < row_of f → IsFirstWithin m lowest highest f → IsFirstWithin m (middle + 1) highest f
    to_back f above w = record {
      within = record { lower = omega (arith, above); upper = w.within.upper };
      there = w.there;
      first = λ g within h. let l = within.lower in w.first g (record { lower = omega (arith, l, low); upper = within.upper }) h;
    }

    front_empty : (f : FaultCase) → middle < row_of f → IsFirstWithin m lowest highest f → HasNone m lowest middle
    front_empty f above w g within h =
        let u = within.upper in
        not_earlier f g (omega (arith, u, above)) (w.first g (record { lower = within.lower; upper = omega (arith, u, high) }) h)

    -- what is found in the lower rows, or else in the upper ones
    pub joined : (found later : Option FaultCase) → IsFirstCase m lowest middle found → IsFirstCase m (middle + 1) highest later → IsFirstCase m lowest highest (option_or found later)
    joined None later a b = record {
      none = (λ n. b.none.0 (back_none n), λ e. both_none (a.none.1 refl) (b.none.1 e));
      first = λ f. (
        λ w. ⊎_elim (λ (above : middle < row_of f). (b.first f).0 (to_back f above w)) (λ (below : row_of f ≤ middle). absurd (none_isnt_some f ((a.first f).0 (to_front f below w)))) (cases_lt middle (row_of f)),
        λ e. back_first f (a.none.1 refl) ((b.first f).1 e),
      );
    }
    joined (Some g) later a b = record {
      none = (λ n. absurd (some_isnt_none g (a.none.0 (front_none n))), λ e. absurd (some_isnt_none g e));
      first = λ f. (
        λ w. ⊎_elim (λ (above : middle < row_of f). absurd (some_isnt_none g (a.none.0 (front_empty f above w)))) (λ (below : row_of f ≤ middle). (a.first f).0 (to_front f below w)) (cases_lt middle (row_of f)),
        λ e. front_first f ((a.first f).1 e),
      );
    }

  -- nothing is found where there is none
  pub of_none : (lowest highest : ℕ) → HasNone m lowest highest → IsFirstCase m lowest highest None
  of_none lowest highest n = record { none = (λ h. refl, λ e. n); first = λ f. (λ w. absurd (n f w.within w.there), λ e. absurd (none_isnt_some f e)) }

pub or_none : (o : Option FaultCase) → option_or o None ≡ o
or_none None = refl
or_none (Some f) = refl
