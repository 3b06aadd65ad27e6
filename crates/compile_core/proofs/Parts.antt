-- The first fault of sources, and what is left where there is none.
use Rattle.std.proofs.Common.{◌≡◌, List, [], ◌∷◌, map, Option, Some, None, refl, sym, ap, ◌∙◌}
use Rattle.std.specs.Prelude.{Err}
use Rattle.spoc_base.specs.declared.fault.Fault.{Fault}
use Rattle.spoc_base.specs.declared.fault.Refusal.{Refusal}
use Rattle.spoc_base.specs.declared.fault.Refusal.TheVariants as refusal
use Rattle.spoc_base.specs.declared.place.Source.{Source}
use Rattle.topology.specs.First.{IsRefusalOf}
use Rattle.meaning_laws.specs.Tables.{meaning_of}
use Rattle.policy_decls.specs.Faults.{fault_of}
use Rattle.policy_files.specs.Fault.{or_else, fault_of_texts}
use Rattle.policy_files.specs.OfTexts.{declared}
use Rattle.policy_files.specs.Seen.{texts_of}
use Rattle.policy_source.specs.Faults.{fault_of_sources}
use Rattle.fault_text.specs.Texts.{pair_of, fault_line}
use Rattle.policy_outcome.specs.Outcome.{unless, outcome_for}
use Rattle.source_laws.specs.Sources.{source_texts, policy_in, outcome_of}

pub same_texts : (sources : List Source) → texts_of sources ≡ source_texts (map pair_of sources)
same_texts [] = refl
same_texts (s ∷ sources) = ap (λ texts. s.text ∷ texts) (same_texts sources)

-- no fault of texts and declarations together is none of the declarations
second_none : (o p : Option Fault) → or_else o p ≡ None → p ≡ None
second_none None p e = e
second_none (Some fault) p e = cc

pub declared_without_fault : (sources : List Source) → fault_of_sources (texts_of sources) ≡ None → fault_of (declared (source_texts (map pair_of sources))) ≡ None
declared_without_fault sources e =
    ap (λ texts. fault_of (declared texts)) (sym (same_texts sources)) ∙ second_none (fault_of_texts (texts_of sources)) (fault_of (declared (texts_of sources))) e

-- the outcome of sources without such a fault
pub past_texts : (sources : List Source) → fault_of_sources (texts_of sources) ≡ None →
    outcome_of (map pair_of sources) ≡ outcome_for (meaning_of (policy_in (map pair_of sources)))
past_texts sources e =
    let pairs = map pair_of sources in
    ap (λ (o : Option Fault). unless o (fault_line pairs) (outcome_for (meaning_of (policy_in pairs)))) (ap fault_of_sources (sym (same_texts sources)) ∙ e)

-- and that of sources with one
pub at_fault : (sources : List Source) (fault : Fault) → fault_of_sources (texts_of sources) ≡ Some fault → outcome_of (map pair_of sources) ≡ Err (fault_line (map pair_of sources) fault)
at_fault sources fault e =
    let pairs = map pair_of sources in
    ap (λ (o : Option Fault). unless o (fault_line pairs) (outcome_for (meaning_of (policy_in pairs)))) (ap fault_of_sources (sym (same_texts sources)) ∙ e)

pub refused_texts : (sources : List Source) (r : Refusal) → IsRefusalOf (λ fault. fault_of_sources (texts_of sources) ≡ Some fault) r →
    IsRefusalOf (λ fault. outcome_of (map pair_of sources) ≡ Err (fault_line (map pair_of sources) fault)) r
refused_texts sources (refusal.Policy fault) e = at_fault sources fault e
refused_texts sources refusal.Memory e = tt
