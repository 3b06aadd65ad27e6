-- What sources compile to is told by their first fault.
use Rattle.std.proofs.Common.{◌≡◌, ℕ, ◌<◌, List, [], length, Option, Some, None, refl, sym, ap, ◌∙◌}
use Rattle.std.specs.Prelude.{◌↔◌, ◌^◌, Result, Ok, Err, option_map}
use Rattle.spoc_base.specs.declared.fault.Fault.{Fault}
use Rattle.policy_model.specs.Headline.{Meaning}
use Rattle.policy_model.proofs.OneFault.{one_first_fault}
use Rattle.topology.specs.Sound.{IsSound}
use Rattle.meaning_laws.proofs.MeaningThere.{meaning_found}
use Rattle.decl_laws.proofs.Numbered.{numbered}
use Rattle.decl_laws.proofs.SoundSets.{sets_sound}
use Rattle.decl_laws.proofs.Distinct.{names_distinct}
use Rattle.decl_laws.proofs.Limited.{limits_kept, implied_kept}
use Rattle.decl_laws.proofs.Plain.{rules_plain}
use Rattle.decl_laws.proofs.Spelled.{all_spelled}
use Rattle.decl_laws.proofs.WellFormed.{well_formed}
use Rattle.policy_decls.specs.Names.{declared_names}
use Rattle.policy_decls.specs.Faults.{fault_of}
use Rattle.policy_files.specs.Fault.{or_else, fault_of_texts}
use Rattle.policy_files.specs.OfTexts.{declared}
use Rattle.policy_source.specs.Faults.{fault_of_sources}
use Rattle.policy_source.proofs.Sourced.{formed, spelled}
use Rattle.fault_text.specs.Texts.{fault_line}
use Rattle.fault_text.specs.Cases.{case_line}
use Rattle.policy_outcome.specs.Outcome.{Written, unless, outcome_for}
use Rattle.first_fault_laws.specs.Whole.{prepare_case, IsOutcomeOf}
use Rattle.first_fault_laws.proofs.Joined.{prepared_first, first_up_to, told_first}
use Rattle.first_fault_laws.proofs.Told.{its_own}
use Rattle.source_laws.specs.Sources.{source_texts, policy_in, outcome_of}
use Rattle.source_laws.specs.Table.{faults_in, meant_by, SourceFault, OfTexts, OfPolicy, IsFirstOf, line_of, TellsFirst, IsOutcomeIn, prepared_line, IsToldIn}
use Rattle.source_laws.proofs.Heads.{head, nothing_there}
use Rattle.source_laws.proofs.Listed.{sources_first}

abbrev Sources : Type 0
Sources = List (List ℕ × List ℕ)

-- ---- one first fault

some_no_nothing : (xs : List Fault) (f : Fault) → head xs ≡ Some f → xs ≡ [] → ⊥
some_no_nothing xs f e none = cc (e, none)

pub one_first : (sources : Sources) (highest : ℕ) (f g : SourceFault) → IsFirstOf sources highest f → IsFirstOf sources highest g → f ≡ g
one_first sources highest (OfTexts f) (OfTexts g) a b = ap OfTexts (cc (a, b))
one_first sources highest (OfTexts f) (OfPolicy d) a b = absurd (some_no_nothing (faults_in sources) f a b.0)
one_first sources highest (OfPolicy c) (OfTexts g) a b = absurd (some_no_nothing (faults_in sources) g b a.0)
one_first sources highest (OfPolicy c) (OfPolicy d) a b =
    let m = meant_by sources in
    ap OfPolicy (one_first_fault m c d a.1 b.1)

-- ---- sources without a fault of texts and declarations

second_none : (o p : Option Fault) → or_else o p ≡ None → p ≡ None
second_none None p e = e
second_none (Some fault) p e = cc e

declared_clear : (sources : Sources) → fault_of_sources (source_texts sources) ≡ None → fault_of (declared (source_texts sources)) ≡ None
declared_clear sources e = second_none (fault_of_texts (source_texts sources)) (fault_of (declared (source_texts sources))) e

pub sound_in : (sources : Sources) → fault_of_sources (source_texts sources) ≡ None → length (declared_names (declared (source_texts sources))) < 2 ^ 32 → IsSound (policy_in sources)
sound_in sources none few =
    let decls = declared (source_texts sources) in
    let form = formed (source_texts sources) in
    let clear = declared_clear sources none in
    record {
      numbered = numbered decls form clear;
      sets = sets_sound decls form clear;
      named = names_distinct decls form clear;
      limited = limits_kept decls form clear few;
      well_formed = well_formed decls form clear;
      implied = implied_kept decls clear;
      plain = rules_plain decls clear;
      spelled = all_spelled decls (spelled (source_texts sources));
    }

-- ---- what is told of them

module _ (sources : Sources) (sound : fault_of_sources (source_texts sources) ≡ None → IsSound (policy_in sources)) where
  abbrev m : Meaning
  m = meant_by sources

  abbrev texts_fault : Option Fault
  texts_fault = fault_of_sources (source_texts sources)

  module _ (none : texts_fault ≡ None) where
    clear : faults_in sources ≡ []
    clear = nothing_there (faults_in sources) (sources_first sources ∙ none)

    not_of_texts : (f : Fault) → head (faults_in sources) ≡ Some f → ⊥
    not_of_texts f e = some_no_nothing (faults_in sources) f e clear

    abbrev IsOutcomeHere : Result Written (List ℕ) → Type 0
    IsOutcomeHere outcome = IsOutcomeIn sources outcome ↔ (outcome_for m ≡ outcome)

    law : (outcome : Result Written (List ℕ)) → IsOutcomeOf m outcome ↔ (outcome_for m ≡ outcome)
    law outcome = its_own m (sound none) (meaning_found (policy_in sources)).zones outcome

    of_policy : (line : List ℕ) (f : SourceFault) → IsFirstOf sources 11 f → line ≡ line_of sources f → outcome_for m ≡ Err line
    of_policy line (OfTexts f) first its = absurd (not_of_texts f first)
    of_policy line (OfPolicy c) first its = (law (Err line)).0 (record { case = c; first = (first_up_to m 11 c).1 (first.1, first.2); its = its })

    past_texts : (outcome : Result Written (List ℕ)) → IsOutcomeHere outcome
    past_texts (Ok written) = (
      λ h. (law (Ok written)).0 (h.0.policy, h.1),
      λ e. let h = (law (Ok written)).1 e in (record { texts = clear; policy = h.0 }, h.1),
    )
    past_texts (Err line) = (
      λ h. of_policy line h.fault h.first h.its,
      λ e. let h = (law (Err line)).1 e in let w = (first_up_to m 11 h.case).0 h.first in record { fault = OfPolicy h.case; first = (clear, w.0, w.1); its = h.its },
    )

    -- before services
    of_prepared : (line : List ℕ) (f : SourceFault) → IsFirstOf sources 6 f → line ≡ line_of sources f → option_map (case_line m.site) (prepare_case m) ≡ Some line
    of_prepared line (OfTexts f) first its = absurd (not_of_texts f first)
    of_prepared line (OfPolicy c) first its =
        (told_first m 0 6 (prepare_case m) (prepared_first m (sound none)) (Some line)).0 (record { case = c; first = (first_up_to m 6 c).1 (first.1, first.2); its = its })

    prepared_past : (line : Option (List ℕ)) → IsToldIn sources 6 line ↔ (option_map (case_line m.site) (prepare_case m) ≡ line)
    prepared_past None =
        let t = told_first m 0 6 (prepare_case m) (prepared_first m (sound none)) None in
        (λ h. t.0 h.policy, λ e. record { texts = clear; policy = t.1 e })
    prepared_past (Some line) = (
      λ h. of_prepared line h.fault h.first h.its,
      λ e. let h = (told_first m 0 6 (prepare_case m) (prepared_first m (sound none)) (Some line)).1 e in let w = (first_up_to m 6 h.case).0 h.first in record { fault = OfPolicy h.case; first = (clear, w.0, w.1); its = h.its },
    )

  module _ (fault : Fault) (its_fault : texts_fault ≡ Some fault) where
    here : head (faults_in sources) ≡ Some fault
    here = sources_first sources ∙ its_fault

    of_texts : (highest : ℕ) (line : List ℕ) (f : SourceFault) → IsFirstOf sources highest f → line ≡ line_of sources f → fault_line sources fault ≡ line
    of_texts highest line (OfTexts g) first its = ap (fault_line sources) (cc (here, first)) ∙ sym its
    of_texts highest line (OfPolicy c) first its = absurd (some_no_nothing (faults_in sources) fault here first.0)

    pub tells_texts : (highest : ℕ) → TellsFirst sources highest (fault_line sources fault)
    tells_texts highest = record { fault = OfTexts fault; first = here; its = refl }

    at_texts : (outcome : Result Written (List ℕ)) → IsOutcomeIn sources outcome ↔ (Err (fault_line sources fault) ≡ outcome)
    at_texts (Ok written) = (λ h. absurd (some_no_nothing (faults_in sources) fault here h.0.texts), λ e. cc e)
    at_texts (Err line) = (
      λ h. ap Err (of_texts 11 line h.fault h.first h.its),
      λ e. record { fault = OfTexts fault; first = here; its = sym (cc e) },
    )

    prepared_at : (line : Option (List ℕ)) → IsToldIn sources 6 line ↔ (Some (fault_line sources fault) ≡ line)
    prepared_at None = (λ h. absurd (some_no_nothing (faults_in sources) fault here h.texts), λ e. cc e)
    prepared_at (Some line) = (
      λ h. ap Some (of_texts 6 line h.fault h.first h.its),
      λ e. record { fault = OfTexts fault; first = here; its = sym (cc e) },
    )

  by_fault : (o : Option Fault) → texts_fault ≡ o → (outcome : Result Written (List ℕ)) → IsOutcomeIn sources outcome ↔ (unless o (fault_line sources) (outcome_for m) ≡ outcome)
  by_fault None e outcome = past_texts e outcome
  by_fault (Some fault) e outcome = at_texts fault e outcome

  pub outcome_told : (outcome : Result Written (List ℕ)) → IsOutcomeIn sources outcome ↔ (outcome_of sources ≡ outcome)
  outcome_told outcome = by_fault texts_fault refl outcome

  by_prepared : (o : Option Fault) → texts_fault ≡ o → (line : Option (List ℕ)) →
      IsToldIn sources 6 line ↔ (or_else (option_map (fault_line sources) o) (option_map (case_line m.site) (prepare_case m)) ≡ line)
  by_prepared None e line = prepared_past e line
  by_prepared (Some fault) e line = prepared_at fault e line

  pub preparation_told : (line : Option (List ℕ)) → IsToldIn sources 6 line ↔ (prepared_line sources ≡ line)
  preparation_told line = by_prepared texts_fault refl line
