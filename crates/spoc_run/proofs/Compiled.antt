-- What the sources compile to is the outcome of the compiler's definition.
use Rattle.std.proofs.Common.{◌≡◌, List, Result, Ok, Err, sym, subst, ◌∙◌}
use Rattle.std.specs.Prelude.{ℕ, IfOk, IfErr, OnOk}
use Rattle.std.specs.Str.{bytes_eq}
use Rattle.std.specs.List.{IsDistinct}
use Rattle.spoc_base.specs.declared.fault.Refusal.{Refusal}
use Rattle.spoc_base.specs.declared.fault.Refusal.TheVariants as refusal
use Rattle.spoc_io.specs.Files.{Files}
use Rattle.topology.specs.First.{IsRefusalOf}
use Rattle.fault_text.specs.Texts.{fault_line}
use Rattle.first_fault_laws.specs.Whole.{last_row}
use Rattle.policy_outcome.specs.Outcome.{Written}
use Rattle.policy_compile.specs.Seen.{written_of}
use Rattle.policy_compile.specs.declared.compiled.Compiled.{Compiled}
use Rattle.source_laws.specs.Sources.{outcome_of}
use Rattle.source_laws.specs.Table.{HaveNone, TellsFirst}
use Rattle.compile_core.specs.Exact.{AreExact, file_names}
use Rattle.spoc_run.specs.Outcome.{compiled_of}
use Rattle.spoc_run.specs.Decided.{IsCompiled, IsRefused, IsExactly}

same_written : (a b : Written) → ◌≡◌ {A = Result Written (List ℕ)} (Ok a) (Ok b) → a ≡ b
same_written a b e = cc

exactly : (sources : Files) (written : Written) → compiled_of sources ≡ Ok written → AreExact sources written → IsDistinct bytes_eq (file_names written) → IsExactly sources
exactly sources written is exact names other e =
    subst (λ (w : Written). AreExact sources w × IsDistinct bytes_eq (file_names w)) (same_written written other (sym is ∙ e)) (exact, names)

pub compiled : (r : Result Compiled Refusal) (sources : Files) → IfOk r (λ c. outcome_of sources ≡ Ok (written_of c)) → OnOk r (HaveNone sources last_row) →
    IfOk r (λ c. AreExact sources (written_of c)) → IfOk r (λ c. IsDistinct bytes_eq (file_names (written_of c))) → IfOk r (λ c. IsCompiled sources (written_of c))
unfolding compiled_of
compiled (Ok c) sources is clear exact names = record {
  is = is;
  clear = clear;
  names = names;
  exact = exactly sources (written_of c) is exact names;
}
compiled (Err refusal) sources is clear exact names = tt

one_refused : (r : Refusal) (sources : Files) → IsRefusalOf (λ fault. outcome_of sources ≡ Err (fault_line sources fault)) r →
    IsRefusalOf (λ fault. TellsFirst sources last_row (fault_line sources fault)) r → IsRefusalOf (λ fault. IsRefused sources (fault_line sources fault)) r
unfolding compiled_of
one_refused (refusal.Policy fault) sources is first = record { is = is; first = first }
one_refused refusal.Memory sources is first = tt

pub refused : (r : Result Compiled Refusal) (sources : Files) → IfErr r (IsRefusalOf (λ fault. outcome_of sources ≡ Err (fault_line sources fault))) →
    IfErr r (IsRefusalOf (λ fault. TellsFirst sources last_row (fault_line sources fault))) → IfErr r (IsRefusalOf (λ fault. IsRefused sources (fault_line sources fault)))
refused (Ok c) sources is first = tt
refused (Err r) sources is first = one_refused r sources is first
