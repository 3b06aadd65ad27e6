-- What is known of the policy that sources declare.
use Rattle.std.proofs.Common.{◌≡◌, ℕ, List, true, map, sym, ap, subst, ◌∙◌}
use Rattle.std.specs.Prelude.{None, Result, Ok, Err, IfOk, IfErr, IsTrue}
use Rattle.std.specs.Str.{bytes_eq}
use Rattle.std.specs.List.{IsDistinct}
use Rattle.policy_model.specs.Policy.{Policy, managed_routers}
use Rattle.policy_model.specs.Filters.{Line}
use Rattle.policy_laws.specs.Shaped.{IsShaped}
use Rattle.policy_laws.specs.Routed.{IsWired}
use Rattle.topology.specs.First.{IsRefusalOf}
use Rattle.topology.specs.Sound.{IsSound}
use Rattle.topology.specs.View.{policy_of, sources_of}
use Rattle.topology.specs.declared.topo.Topo.{Topo}
use Rattle.meaning_laws.specs.Tables.{meaning_of}
use Rattle.spoc_ast.specs.Written.{DeclText}
use Rattle.spoc_base.specs.declared.fault.Refusal.{Refusal}
use Rattle.spoc_base.specs.declared.fault.Refusal.TheVariants as refusal
use Rattle.spoc_base.specs.declared.place.Source.{Source}
use Rattle.policy_decls.specs.Said.{policy_said}
use Rattle.policy_decls.specs.Faults.{fault_of}
use Rattle.policy_decls.specs.Formed.{are_formed}
use Rattle.policy_files.specs.OfTexts.{declared}
use Rattle.policy_files.specs.Seen.{texts_of}
use Rattle.policy_source.specs.Faults.{fault_of_sources}
use Rattle.fault_text.specs.Texts.{pair_of, fault_line}
use Rattle.policy_outcome.specs.Outcome.{Written, outcome_for, written_for, lists_for}
use Rattle.policy_outcome.specs.Files.{files_for}
use Rattle.policy_outcome.specs.Found.{meaning_in, pairs_in}
use Rattle.policy_outcome.specs.Exact.{DecidesExactly, configs_for}
use Rattle.policy_compile.specs.Seen.{written_of}
use Rattle.policy_compile.specs.declared.compiled.Compiled.{Compiled}
use Rattle.printed_laws.specs.ReadFiles.{AreReadAs}
use Rattle.source_laws.specs.Sources.{source_texts, policy_in, outcome_of}
use Rattle.compile_core.specs.Exact.{AreExact, file_names}
use Rattle.compile_core.proofs.Parts.{past_texts}

-- what the policy in memory means and where it stands is what the sources say
pub same_pairs : (topo : Topo) (sources : List Source) → sources_of topo ≡ sources → pairs_in topo ≡ map pair_of sources
same_pairs topo sources e = ap (map pair_of) e

pub same_meaning : (topo : Topo) (p : Policy) → policy_of topo ≡ p → meaning_in topo ≡ meaning_of p
same_meaning topo p e = ap meaning_of e

-- it is shaped, and its interfaces are placed
pub shaped_and_wired : (topo : Topo) (sources : List (List ℕ × List ℕ)) →
    ((decls : List DeclText) → IsTrue (are_formed decls) → fault_of decls ≡ None → IsSound (policy_said decls) → IsShaped (policy_said decls) × IsWired (policy_said decls)) →
    ((texts : List (List ℕ)) → are_formed (declared texts) ≡ true) →
    policy_of topo ≡ policy_in sources → fault_of (declared (source_texts sources)) ≡ None → IsShaped (policy_in sources) × IsWired (policy_in sources)
shaped_and_wired topo sources law formed e none = law (declared (source_texts sources)) (formed (source_texts sources)) none (subst IsSound e topo.kept.sound)

-- what is written for it is exact
pub exact_of : (sources : List (List ℕ × List ℕ)) (written : Written) →
    (written ≡ written_for (meaning_of (policy_in sources))) × DecidesExactly (policy_in sources) (configs_for (meaning_of (policy_in sources))) →
    AreReadAs (policy_in sources) (managed_routers (policy_in sources)) (configs_for (meaning_of (policy_in sources))) written.files → AreExact sources written
exact_of sources written h read = record {
  lists = lists_for (meaning_of (policy_in sources));
  files = ap (λ (w : Written). w.files) h.0;
  read = read;
  decides = h.1;
}

-- and its files have distinct names
pub names_of : (sources : List (List ℕ × List ℕ)) (written : Written) →
    ((decls : List DeclText) (lists : List (List Line)) → fault_of decls ≡ None → IsDistinct bytes_eq (map (λ file. file.0) (files_for (policy_said decls) lists))) →
    fault_of (declared (source_texts sources)) ≡ None → written ≡ written_for (meaning_of (policy_in sources)) → IsDistinct bytes_eq (file_names written)
names_of sources written law none e =
    subst (λ (w : Written). IsDistinct bytes_eq (file_names w)) (sym e) (law (declared (source_texts sources)) (lists_for (meaning_of (policy_in sources))) none)

-- the outcome of the policy in memory is that of its sources
module _ (topo : Topo) (sources : List Source) (policy : policy_of topo ≡ policy_in (map pair_of sources)) (told : sources_of topo ≡ sources) (none : fault_of_sources (texts_of sources) ≡ None) where
  abbrev pairs : List (List ℕ × List ℕ)
  pairs = map pair_of sources

  same_meant : outcome_for (meaning_of (policy_in pairs)) ≡ outcome_for (meaning_in topo)
  same_meant = sym (ap outcome_for (same_meaning topo (policy_in pairs) policy))

  meant_by : (o : Result Written (List ℕ)) → outcome_for (meaning_in topo) ≡ o → outcome_for (meaning_of (policy_in pairs)) ≡ o
  meant_by o e = same_meant ∙ e

  outcome_by : (o : Result Written (List ℕ)) → outcome_for (meaning_in topo) ≡ o → outcome_of pairs ≡ o
  outcome_by o e = past_texts sources none ∙ meant_by o e

  pub done : (r : Result Compiled Refusal) → IfOk r (λ made. outcome_for (meaning_in topo) ≡ Ok (written_of made)) → IfOk r (λ made. outcome_of pairs ≡ Ok (written_of made))
  done (Ok made) e = outcome_by (Ok (written_of made)) e
  done (Err refusal) e = tt

  one_refused : (r : Refusal) → IsRefusalOf (λ fault. outcome_for (meaning_in topo) ≡ Err (fault_line (pairs_in topo) fault)) r →
      IsRefusalOf (λ fault. outcome_of pairs ≡ Err (fault_line pairs fault)) r
  one_refused (refusal.Policy fault) e =
      outcome_by (Err (fault_line (pairs_in topo) fault)) e ∙ ap (λ (told_pairs : List (List ℕ × List ℕ)). Err (fault_line told_pairs fault)) (same_pairs topo sources told)
  one_refused refusal.Memory e = tt

  pub refused : (r : Result Compiled Refusal) → IfErr r (IsRefusalOf (λ fault. outcome_for (meaning_in topo) ≡ Err (fault_line (pairs_in topo) fault))) →
      IfErr r (IsRefusalOf (λ fault. outcome_of pairs ≡ Err (fault_line pairs fault)))
  refused (Ok made) e = tt
  refused (Err refusal) e = one_refused refusal e

  -- what is written is exact, and its files have distinct names
  module _ (shape : IsShaped (policy_in pairs) × IsWired (policy_in pairs))
      (law : (p : Policy) (written : Written) → IsSound p → IsShaped p → IsWired p → outcome_for (meaning_of p) ≡ Ok written →
      (written ≡ written_for (meaning_of p)) × DecidesExactly p (configs_for (meaning_of p))) where
    decided : (made : Compiled) → outcome_for (meaning_in topo) ≡ Ok (written_of made) →
        (written_of made ≡ written_for (meaning_of (policy_in pairs))) × DecidesExactly (policy_in pairs) (configs_for (meaning_of (policy_in pairs)))
    decided made e = law (policy_in pairs) (written_of made) (subst IsSound policy topo.kept.sound) shape.0 shape.1 (meant_by (Ok (written_of made)) e)

    pub exact :
        ((p : Policy) (written : Written) → IsSound p → IsShaped p → outcome_for (meaning_of p) ≡ Ok written → AreReadAs p (managed_routers p) (configs_for (meaning_of p)) written.files) →
        (r : Result Compiled Refusal) → IfOk r (λ made. outcome_for (meaning_in topo) ≡ Ok (written_of made)) → IfOk r (λ made. AreExact pairs (written_of made))
    exact reads (Ok made) e =
        exact_of pairs (written_of made) (decided made e)
        (reads (policy_in pairs) (written_of made) (subst IsSound policy topo.kept.sound) shape.0 (meant_by (Ok (written_of made)) e))
    exact reads (Err refusal) e = tt

    pub named : ((decls : List DeclText) (lists : List (List Line)) → fault_of decls ≡ None → IsDistinct bytes_eq (map (λ file. file.0) (files_for (policy_said decls) lists))) →
        fault_of (declared (source_texts pairs)) ≡ None → (r : Result Compiled Refusal) → IfOk r (λ made. outcome_for (meaning_in topo) ≡ Ok (written_of made)) →
        IfOk r (λ made. IsDistinct bytes_eq (file_names (written_of made)))
    named names clear (Ok made) e = names_of pairs (written_of made) names clear (decided made e).0
    named names clear (Err refusal) e = tt
