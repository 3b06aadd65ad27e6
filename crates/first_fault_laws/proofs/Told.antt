-- The outcome of a policy is told by its first fault.
use Rattle.std.proofs.Common.{◌≡◌, ℕ, ◌≤◌, List, Option, Some, None, refl, sym, ap, ◌∙◌}
use Rattle.std.specs.Prelude.{◌↔◌, Result, Ok, Err}
use Rattle.std.specs.Option.{option_or}
use Rattle.policy_model.specs.Zones.{IsSite}
use Rattle.policy_model.specs.FirstFault.{FaultCase, IsFirstFault, IsAccepted}
use Rattle.policy_model.specs.Headline.{Meaning}
use Rattle.topology.specs.First.{row_of, HasNone}
use Rattle.topology.specs.Sound.{IsSound}
use Rattle.fault_laws.specs.Cases.{IsFirstCase, split_case}
use Rattle.fault_laws.proofs.Joins.{none_isnt_some, some_isnt_none, same_fault}
use Rattle.fault_text.specs.Cases.{case_line}
use Rattle.policy_outcome.specs.Outcome.{Written, unless, tag_case, view_case, service_case, walk_case, written_for, after_services, after_views, after_tags, outcome_for}
use Rattle.first_fault_laws.specs.Whole.{prepare_case, whole_case, IsOutcomeOf}
use Rattle.first_fault_laws.proofs.Joined.{whole_first, first_up_to}

-- one after the other is the first of both
two : (o p : Option FaultCase) (line : FaultCase → List ℕ) (rest : Result Written (List ℕ)) → unless o line (unless p line rest) ≡ unless (option_or o p) line rest
two None p line rest = refl
two (Some f) p line rest = refl

module _ (m : Meaning) where
  abbrev line : FaultCase → List ℕ
  line = case_line m.site

  pub past_preparations : outcome_for m ≡ unless (prepare_case m) line (after_views m)
  past_preparations = two (split_case m) (tag_case m) line (after_tags m) ∙ two (option_or (split_case m) (tag_case m)) (view_case m) line (after_views m)

  pub told : outcome_for m ≡ unless (whole_case m) line (Ok (written_for m))
  told =
      past_preparations ∙ two (prepare_case m) (service_case m) line (after_services m)
      ∙ two (option_or (prepare_case m) (service_case m)) (walk_case m) line (Ok (written_for m))

  own : (found : Option FaultCase) → IsFirstCase m 0 11 found → (outcome : Result Written (List ℕ)) →
      IsOutcomeOf m outcome ↔ (unless found line (Ok (written_for m)) ≡ outcome)
  own None is (Ok written) = (λ h. ap Ok (sym h.1), λ e. (is.none.1 refl, sym (cc e)))
  own None is (Err text) = (λ h. absurd (none_isnt_some h.case ((is.first h.case).0 h.first)), λ e. cc e)
  own (Some f) is (Ok written) = (λ h. absurd (some_isnt_none f (is.none.0 h.0)), λ e. cc e)
  own (Some f) is (Err text) = (
    λ h. ap Err (ap line (same_fault f h.case ((is.first h.case).0 h.first)) ∙ sym h.its),
    λ e. record { case = f; first = (is.first f).1 refl; its = sym (cc e) },
  )

  module _ (sound : IsSound m.site.policy) (site : IsSite m.site) where
    pub its_own : (outcome : Result Written (List ℕ)) → IsOutcomeOf m outcome ↔ (outcome_for m ≡ outcome)
    its_own outcome =
        let o = own (whole_case m) (whole_first m sound site) outcome in
        (λ h. told ∙ o.0 h, λ e. o.1 (sym told ∙ e))

    pub first_told : (text : List ℕ) → (outcome_for m ≡ Err text) ↔ ((f : FaultCase) × IsFirstFault m f × (row_of f ≤ 11) × (text ≡ line f))
    first_told text = (
      λ e. let h = (its_own (Err text)).1 e in
          let w = (first_up_to m 11 h.case).0 h.first in
          (h.case, w.0, w.1, h.its),
      λ w. (its_own (Err text)).0 (record { case = w.0; first = (first_up_to m 11 w.0).1 (w.1, w.2); its = w.3 }),
    )

    pub written_told : (outcome_for m ≡ Ok (written_for m)) ↔ HasNone m 0 11
    written_told = let o = its_own (Ok (written_for m)) in (λ e. (o.1 e).0, λ n. o.0 (n, refl))

    pub accepted_told : IsAccepted m → outcome_for m ≡ Ok (written_for m)
    accepted_told a = written_told.1 (λ f within h. a f h)
