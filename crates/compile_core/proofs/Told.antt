-- What is told of sources is their first fault, and sources that are compiled have none.
use Rattle.std.proofs.Common.{◌≡◌, ℕ, List, map, sym, ap, subst, ◌∙◌}
use Rattle.std.specs.Prelude.{◌↔◌, Some, Result, Ok, Err, IfOk, IfErr, OnOk}
use Rattle.spoc_base.specs.declared.fault.Refusal.{Refusal}
use Rattle.spoc_base.specs.declared.fault.Refusal.TheVariants as refusal
use Rattle.spoc_base.specs.declared.place.Source.{Source}
use Rattle.topology.specs.First.{IsRefusalOf}
use Rattle.topology.specs.Sound.{IsSound}
use Rattle.topology.specs.View.{policy_of}
use Rattle.topology.specs.declared.topo.Topo.{Topo}
use Rattle.policy_files.specs.Seen.{texts_of}
use Rattle.policy_source.specs.Faults.{fault_of_sources}
use Rattle.fault_text.specs.Texts.{pair_of, fault_line}
use Rattle.policy_outcome.specs.Outcome.{Written}
use Rattle.policy_compile.specs.Seen.{written_of}
use Rattle.policy_compile.specs.declared.compiled.Compiled.{Compiled}
use Rattle.source_laws.specs.Sources.{source_texts, policy_in, outcome_of}
use Rattle.source_laws.specs.Table.{HaveNone, TellsFirst, IsOutcomeIn}
use Rattle.source_laws.proofs.Meant.{outcome_told}
use Rattle.compile_core.proofs.Parts.{same_texts, at_fault}

abbrev IsLaw : List (List ℕ × List ℕ) → Type 0
IsLaw pairs = (outcome : Result Written (List ℕ)) → IsOutcomeIn pairs outcome ↔ (outcome_of pairs ≡ outcome)

module _ (pairs : List (List ℕ × List ℕ)) (law : IsLaw pairs) where
  pub clear : (r : Result Compiled Refusal) → IfOk r (λ made. outcome_of pairs ≡ Ok (written_of made)) → OnOk r (HaveNone pairs 11)
  clear (Ok made) e = ((law (Ok (written_of made))).1 e).0
  clear (Err refusal) e = tt

  one_first : (r : Refusal) → IsRefusalOf (λ fault. outcome_of pairs ≡ Err (fault_line pairs fault)) r → IsRefusalOf (λ fault. TellsFirst pairs 11 (fault_line pairs fault)) r
  one_first (refusal.Policy fault) e = (law (Err (fault_line pairs fault))).1 e
  one_first refusal.Memory e = tt

  pub first : (r : Result Compiled Refusal) → IfErr r (IsRefusalOf (λ fault. outcome_of pairs ≡ Err (fault_line pairs fault))) →
      IfErr r (IsRefusalOf (λ fault. TellsFirst pairs 11 (fault_line pairs fault)))
  first (Ok made) e = tt
  first (Err refusal) e = one_first refusal e

-- of a policy in memory
pub law_in_memory : (topo : Topo) (pairs : List (List ℕ × List ℕ)) → policy_of topo ≡ policy_in pairs → IsLaw pairs
law_in_memory topo pairs e = outcome_told pairs (λ none. subst IsSound e topo.kept.sound)

-- of sources whose texts or declarations have a fault
pub first_of_texts : (sources : List Source) (r : Refusal) → IsRefusalOf (λ fault. fault_of_sources (texts_of sources) ≡ Some fault) r →
    IsRefusalOf (λ fault. TellsFirst (map pair_of sources) 11 (fault_line (map pair_of sources) fault)) r
first_of_texts sources (refusal.Policy fault) e =
    let pairs = map pair_of sources in
    let there : fault_of_sources (source_texts pairs) ≡ Some fault = ap fault_of_sources (sym (same_texts sources)) ∙ e in
    (outcome_told pairs (λ none. cc (there, none)) (Err (fault_line pairs fault))).1 (at_fault sources fault e)
first_of_texts sources refusal.Memory e = tt
