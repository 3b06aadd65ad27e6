-- What is answered before anything is written.
use Rattle.std.specs.Prelude.{◌≡◌, ℕ, ◌==◌, ◌||◌, IsTrue, List, ◌++◌, Some, Ok, Err, true, false, codes}
use Rattle.std.specs.Str.{bytes_eq}
use Rattle.std.specs.List.{IsDistinct}
use Rattle.spoc_io.specs.Files.{Files, paths}
use Rattle.policy_outcome.specs.Outcome.{Written}
use Rattle.first_fault_laws.specs.Whole.{last_row}
use Rattle.source_laws.specs.Table.{HaveNone, TellsFirst}
use Rattle.compile_core.specs.Exact.{AreExact}
use Rattle.spoc_run.specs.Outcome.{compiled_of, is_accepted, device_files, policy_text}
use Rattle.spoc_run.specs.declared.load.LoadFail.{LoadFail}
use Rattle.spoc_run.specs.declared.load.LoadFail.TheVariants.{Read, Large, Memory}

-- what the policy compiles to decides exactly, and its files have distinct names
abbrev pub IsExactly : Files → Type 0
IsExactly sources = (written : Written) → compiled_of sources ≡ Ok written → AreExact sources written × IsDistinct bytes_eq (paths written.files)

-- what an accepted policy compiles to: it has no fault of the whole table, and its files have distinct names and decide exactly
pub record IsCompiled (sources : Files) (written : Written) : Type 0 where
  pub is : compiled_of sources ≡ Ok written
  pub clear : HaveNone sources last_row
  pub names : IsDistinct bytes_eq (paths written.files)
  pub exact : IsExactly sources

-- a policy is refused with the line of its first fault in the whole table
pub record IsRefused (sources : Files) (line : List ℕ) : Type 0 where
  pub is : compiled_of sources ≡ Err line
  pub first : TellsFirst sources last_row line

-- for a policy that was read
pub record AnswersSources (sources : Files) (status : ℕ) (text : List ℕ) (files : Files) : Type 0 where
  pub known : IsTrue (status == 0 || (status == 1 || status == 5))
  pub accepted : status ≡ 0 → is_accepted (compiled_of sources) ≡ true
  pub refused : status ≡ 1 → is_accepted (compiled_of sources) ≡ false
  pub clear : status ≡ 0 → HaveNone sources last_row
  pub first : status ≡ 1 → TellsFirst sources last_row text
  pub written : status ≡ 0 → files ≡ device_files (compiled_of sources)
  pub summary : status ≡ 0 → policy_text 0 sources ≡ Some text
  pub fault : status ≡ 1 → policy_text 1 sources ≡ Some text
  pub memory : status ≡ 5 → text ≡ codes "memory\n"
  pub names : IsDistinct bytes_eq (paths files)
  pub exact : status ≡ 0 → IsExactly sources

-- where it could not be read
abbrev pub AnswersFail : LoadFail → ℕ → List ℕ → Files → Type 0
AnswersFail Read status text files = (status ≡ 3) × (text ≡ codes "read fault\n") × IsDistinct bytes_eq (paths files)
AnswersFail Memory status text files = (status ≡ 5) × (text ≡ codes "memory\n") × IsDistinct bytes_eq (paths files)
AnswersFail (Large path) status text files = IsTrue (status == 9 || status == 5) × (status ≡ 9 → text ≡ codes "too large " ++ path ++ codes "\n") × (status ≡ 5 → text ≡ codes "memory\n") × IsDistinct bytes_eq (paths files)
