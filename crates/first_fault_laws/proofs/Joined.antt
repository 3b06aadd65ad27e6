-- The rows that stand side by side, from the first one on, and what is told of them.
use Rattle.std.proofs.Common.{◌≡◌, ℕ, ◌<◌, ◌≤◌, true, not, List, Option, Some, None, refl, sym, ap, ◌∙◌, ⊎_elim, arith}
use Rattle.std.specs.Prelude.{◌↔◌, option_map}
use Rattle.std.specs.Option.{option_or}
use Rattle.std.proofs.lemmas.Bool.{not_from_false, false_from_ne_true, cases_lt}
use Rattle.policy_model.specs.Zones.{IsSite}
use Rattle.policy_model.specs.FirstFault.{FaultCase, AreaSplit, NatConflict, NatTwice, NatInside, LimitViews, SamePrefix, HostShadowed, IfaceShadowed, ManagedEnd, LimitPermits, NoPath, HiddenEnd, LimitLines, LimitRoutes, NoHopAddress, AmbiguousHop, is_lower, order_of, IsFirstFault, IsAccepted}
use Rattle.policy_model.specs.Headline.{Meaning, permits_in}
use Rattle.topology.specs.First.{row_of, HasNone, IsFirstWithin}
use Rattle.topology.specs.Sound.{IsSound}
use Rattle.fault_laws.specs.Cases.{IsFirstCase, split_case}
use Rattle.fault_laws.proofs.Shapes.{lower_row, not_both}
use Rattle.fault_laws.proofs.Joins.{joined, none_isnt_some, some_isnt_none, same_fault}
use Rattle.fault_laws.proofs.EachRow.{split_first, tags_first, services_first, walks_first}
use Rattle.shadow_laws.proofs.Row.{view_faults_first}
use Rattle.fault_text.specs.Cases.{case_line}
use Rattle.policy_outcome.specs.Outcome.{tag_case, view_case, service_case, walk_case}
use Rattle.first_fault_laws.specs.Whole.{prepare_case, whole_case, IsToldOf}

module _ (m : Meaning) where
  pub prepared_first : IsSound m.site.policy → IsFirstCase m 0 6 (prepare_case m)
  prepared_first sound =
      joined m 0 3 6 (omega arith) (omega arith) (option_or (split_case m) (tag_case m)) (view_case m)
      (joined m 0 0 3 (omega arith) (omega arith) (split_case m) (tag_case m) (split_first m sound) (tags_first m sound)) (view_faults_first m)

  pub whole_first : IsSound m.site.policy → IsSite m.site → IsFirstCase m 0 11 (whole_case m)
  whole_first sound site =
      joined m 0 8 11 (omega arith) (omega arith) (option_or (prepare_case m) (service_case m)) (walk_case m)
      (joined m 0 6 8 (omega arith) (omega arith) (prepare_case m) (service_case m) (prepared_first sound) (services_first m sound)) (walks_first m sound site)

  -- ---- all rows

  -- a fault of a later row doesn't come before one of an earlier row
  not_later : (f g : FaultCase) → row_of f < row_of g → not (is_lower (order_of (permits_in m) g) (order_of (permits_in m) f)) ≡ true
  not_later f g h = not_from_false (is_lower (order_of (permits_in m) g) (order_of (permits_in m) f))
      (false_from_ne_true (is_lower (order_of (permits_in m) g) (order_of (permits_in m) f)) (λ low. not_both (order_of (permits_in m) g) (order_of (permits_in m) f) low (lower_row (permits_in m) f g h)))

  pub first_up_to : (highest : ℕ) (f : FaultCase) → IsFirstWithin m 0 highest f ↔ (IsFirstFault m f × (row_of f ≤ highest))
  first_up_to highest f = (
    λ w. let upper = w.within.upper in (
      record {
        there = w.there;
        first = λ g h. ⊎_elim (λ (above : highest < row_of g). not_later f g (omega (arith, above, upper)))
            (λ (below : row_of g ≤ highest). w.first g (record { lower = omega arith; upper = below }) h) (cases_lt highest (row_of g));
      },
      upper,
    ),
    λ w. record { within = record { lower = omega arith; upper = w.1 }; there = w.0.there; first = λ g within h. w.0.first g h },
  )

  row_below : (f : FaultCase) → row_of f ≤ 14
  row_below (AreaSplit area border) = omega arith
  row_below (NatConflict tag zone) = omega arith
  row_below (NatTwice net zone tag other) = omega arith
  row_below (NatInside net tag) = omega arith
  row_below LimitViews = omega arith
  row_below (SamePrefix net other at) = omega arith
  row_below (HostShadowed host net at) = omega arith
  row_below (IfaceShadowed iface shared net at) = omega arith
  row_below (ManagedEnd service iface) = omega arith
  row_below LimitPermits = omega arith
  row_below (NoPath src dst) = omega arith
  row_below (HiddenEnd permit src dst net zone) = omega arith
  row_below LimitLines = omega arith
  row_below LimitRoutes = omega arith
  row_below (NoHopAddress router net iface) = omega arith
  row_below (AmbiguousHop router net first second) = omega arith

  pub none_at_all : HasNone m 0 14 ↔ IsAccepted m
  none_at_all = (λ n f h. n f (record { lower = omega arith; upper = row_below f }) h, λ a f within h. a f h)

  -- ---- what is told

  pub told_first : (lowest highest : ℕ) (found : Option FaultCase) → IsFirstCase m lowest highest found →
      (line : Option (List ℕ)) → IsToldOf m lowest highest line ↔ (option_map (case_line m.site) found ≡ line)
  told_first lowest highest None is None = (λ n. refl, λ e. is.none.1 refl)
  told_first lowest highest None is (Some line) = (λ t. absurd (none_isnt_some t.case ((is.first t.case).0 t.first)), λ e. cc e)
  told_first lowest highest (Some f) is None = (λ n. absurd (some_isnt_none f (is.none.0 n)), λ e. cc e)
  told_first lowest highest (Some f) is (Some line) = (
    λ t. ap Some (ap (case_line m.site) (same_fault f t.case ((is.first t.case).0 t.first)) ∙ sym t.its),
    λ e. record { case = f; first = (is.first f).1 refl; its = sym (cc e) },
  )
