-- The one status that was being answered, by which files it was decided, and what is left of it where something failed to be written.
use Rattle.std.specs.Prelude.{◌≡◌, ◌≢◌, ◌⊎◌, ℕ, List, Option, Some, None, IsTrue}
use Rattle.std.specs.Option.{ForSome}
use Rattle.std.specs.Str.{bytes_eq}
use Rattle.std.specs.List.{IsDistinct}
use Rattle.spoc_io.specs.Causes.{Rose, BothTold}
use Rattle.spoc_io.specs.Files.{Files, paths, Grows, GrowsPart}
use Rattle.first_fault_laws.specs.Whole.{last_row}
use Rattle.source_laws.specs.Table.{HaveNone, TellsFirst}
use Rattle.spoc_run.specs.Policy.{policy_of, first_large, most_of_all}
use Rattle.spoc_run.specs.Outcome.{text_of}
use Rattle.spoc_run.specs.Caused.{IsCaused, files_of, is_either}
use Rattle.spoc_run.specs.Decided.{IsExactly}
use Rattle.spoc_run.specs.Puts.{PutsAll, PutsSome}

-- The status, its text and the device files to put are those that the files of a policy folder give: those that the folder holds where it tells them, and
-- else some that it may hold.
pub record IsDecided (words : List (List ℕ)) (known : Option Files) (faults faults' larges larges' status : ℕ) (text : List ℕ) (put : Files) : Type 0 where
  pub files : Files
  pub told : ForSome known (λ fs. files ≡ fs)
  pub caused : IsCaused words (Some files) faults faults' larges larges' status
  pub counted : status ≢ 9 → status ≢ 5 → larges' ≡ larges
  pub says : text_of status (Some files) ≡ Some text
  pub puts : status ≡ 0 → put ≡ files_of files
  pub names : IsDistinct bytes_eq (paths put)
  pub clear : status ≡ 0 → HaveNone (policy_of files) last_row
  pub first : status ≡ 1 → TellsFirst (policy_of files) last_row text
  pub exact : status ≡ 0 → IsExactly (policy_of files)

-- A file was not put: those before it were, it stands there perhaps in part, and nothing was written.
pub record StopsAtPut {O : Type 0} (status : ℕ) (put : Files) (held held' : Option Files) (puts puts' : ℕ) (out out' : O) : Type 0 where
  pub done : status ≡ 0
  pub failed : Rose puts puts'
  pub some : BothTold (PutsSome put) held held'
  pub silent : out' ≡ out

-- The text was not written whole, after all files had been put.
pub record StopsAtText (status : ℕ) (put : Files) (held held' : Option Files) (writes writes' : ℕ) : Type 0 where
  pub failed : Rose writes writes'
  pub all : status ≡ 0 → BothTold (PutsAll put) held held'

-- What stands in the place of a status where 4 is answered.
abbrev pub Stops : {O : Type 0} → ℕ → Files → Option Files → Option Files → (puts puts' : ℕ) → (out out' : O) → (writes writes' : ℕ) → Type 0
Stops status put held held' puts puts' out out' writes writes' = StopsAtPut status put held held' puts puts' out out' ⊎ StopsAtText status put held held' writes writes'

-- What is left of a status with its text and its device files: the answer is that status and all was put and written, or the answer is 4.
pub record Leaves {C O : Type 0} (status : ℕ) (text : List ℕ) (put : Files) (result : ℕ) (code code' : C) (held held' : Option Files) (puts puts' : ℕ) (out out' : O) (said said' : Option (List ℕ)) (writes writes' : ℕ) : Type 0 where
  pub same : result ≢ 4 → result ≡ status
  pub untouched : status ≢ 0 → code' ≡ code
  pub all : result ≢ 4 → status ≡ 0 → BothTold (PutsAll put) held held'
  pub whole : result ≢ 4 → BothTold (Grows text) said said'
  pub part : result ≡ 4 → BothTold (GrowsPart text) said said'
  pub stops : result ≡ 4 → Stops status put held held' puts puts' out out' writes writes'

-- The line of the first fault of the whole table was written.
pub record TellsFirstFault (sources : Files) (said said' : Option (List ℕ)) : Type 0 where
  pub line : List ℕ
  pub first : TellsFirst sources last_row line
  pub written : BothTold (Grows line) said said'

-- The status by the first fault of a policy within the limits: 0 where it has none in the whole table and 1 where it has one, or want of memory.
pub record IsByFirstFault (sources : Files) (status : ℕ) : Type 0 where
  pub clear : first_large most_of_all sources ≡ None → HaveNone sources last_row → IsTrue (is_either 0 5 status)
  pub fault : first_large most_of_all sources ≡ None → (line : List ℕ) → TellsFirst sources last_row line → IsTrue (is_either 1 5 status)
