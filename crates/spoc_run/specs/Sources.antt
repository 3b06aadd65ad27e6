-- What was read.
use Rattle.std.specs.Prelude.{◌≡◌, ◌≤◌, ◌++◌, ℕ, true, List, Result, Ok, Err, IfErr, IsErrOf, IsSome, All, map}
use Rattle.spoc_io.specs.Files.{Files, bytes_at, paths}
use Rattle.spoc_io.specs.Causes.{Rose}
use Rattle.fault_text.specs.Texts.{pair_of}
use Rattle.spoc_base.specs.declared.place.Source.{Source}
use Rattle.spoc_run.specs.Paths.{is_policy_path}
use Rattle.spoc_run.specs.Policy.{with_bytes, first_large, most_of_all}
use Rattle.spoc_run.specs.declared.load.LoadFail.{LoadFail}
use Rattle.spoc_run.specs.declared.load.LoadFail.TheVariants.{Read, Large, Memory}

-- P holds of the path of a file that is too large
abbrev pub IsLargeOf : (List ℕ → Type 0) → LoadFail → Type 0
IsLargeOf P Read = Unit {0}
IsLargeOf P (Large path) = P path
IsLargeOf P Memory = Unit {0}

-- P holds, unless a file is too large
abbrev pub UnlessLarge : {T : Type 0} → Type 0 → Result T LoadFail → Type 0
UnlessLarge P (Ok x) = P
UnlessLarge P (Err Read) = P
UnlessLarge P (Err (Large path)) = Unit {0}
UnlessLarge P (Err Memory) = P

-- A failed read and a file that is too large come only where the counts of these rose, and without such a file their count stays.
pub record HasLoadCause {T : Type 0} (faults faults' larges larges' : ℕ) (result : Result T LoadFail) : Type 0 where
  pub later : faults ≤ faults'
  pub larger : larges ≤ larges'
  pub read : IsErrOf result Read → Rose faults faults'
  pub large : IfErr result (IsLargeOf (λ _. Rose larges larges'))
  pub stays : UnlessLarge (larges' ≡ larges) result

-- so far these files were read, and these paths and so many bytes are left
pub record ReadsOn (files : Files) (all rest : List (List ℕ)) (sources : List Source) (left : ℕ) : Type 0 where
  pub read : map pair_of sources ++ with_bytes files rest ≡ with_bytes files all
  pub large : first_large left (with_bytes files rest) ≡ first_large most_of_all (with_bytes files all)
  pub there : All (λ path. IsSome (bytes_at files path)) rest

-- the same of a folder that doesn't tell its files
pub record ReadsPaths (all rest : List (List ℕ)) (sources : List Source) (left : ℕ) : Type 0 where
  pub read : paths (map pair_of sources) ++ rest ≡ all
  pub fits : (more : Files) → first_large most_of_all (map pair_of sources ++ more) ≡ first_large left more
  pub policy : All (λ path. is_policy_path path ≡ true) rest
