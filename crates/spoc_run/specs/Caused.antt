-- Where a status may come.
use Rattle.std.specs.Prelude.{◌≡◌, ◌⊎◌, ℕ, Bool, true, false, ◌==◌, ◌||◌, IsTrue, IsSome, List, Option, None, if◌then◌else◌}
use Rattle.std.specs.Option.{ForSome}
use Rattle.spoc_io.specs.Causes.{Rose, BothTold}
use Rattle.spoc_io.specs.Files.{Files, GrowsPart}
use Rattle.spoc_run.specs.Policy.{policy_of, first_large, most_of_all}
use Rattle.spoc_run.specs.Outcome.{compiled_of, is_compile, is_accepted, device_files, text_of}

-- a status that is answered where nothing fails to be written
abbrev pub is_status : ℕ → Bool
is_status status = status == 0 || (status == 1 || (status == 2 || (status == 3 || (status == 5 || status == 9))))

-- What the policy's files are where a status comes: accepted where it is done, refused where there is a fault, each and all within
-- the limits at both, and one past a limit at the last.
pub record IsDue (status : ℕ) (sources : Files) : Type 0 where
  pub done : status ≡ 0 → is_accepted (compiled_of sources) ≡ true
  pub fault : status ≡ 1 → is_accepted (compiled_of sources) ≡ false
  pub small : status ≡ 0 ⊎ status ≡ 1 → first_large most_of_all sources ≡ None
  pub large : status ≡ 9 → IsSome (first_large most_of_all sources)

-- The words, the counts of failed reads and of files that were too large, and the policy's files allow the status.
pub record IsCaused (words : List (List ℕ)) (files : Option Files) (faults faults' larges larges' status : ℕ) : Type 0 where
  pub known : IsTrue (is_status status)
  pub usage : status ≡ 2 → is_compile words ≡ false
  pub usage_only : is_compile words ≡ false → status ≡ 2
  pub read : status ≡ 3 → Rose faults faults'
  pub large : status ≡ 9 → Rose larges larges'
  pub due : ForSome files (λ fs. IsDue status (policy_of fs))

-- The text grew by a first part of the text of a status that was to come.
abbrev pub InsteadOf : (ℕ → Type 0) → Option Files → Option (List ℕ) → Option (List ℕ) → Type 0
InsteadOf Caused files before after = (status : ℕ) × Caused status × ForSome (text_of status files) (λ text. BothTold (GrowsPart text) before after)

-- the device files of a policy folder
abbrev pub files_of : Files → Files
files_of files = device_files (compiled_of (policy_of files))

-- no count of failed calls rose: of reads, of puts and of writes
pub record NothingFailed (reads reads' puts puts' writes writes' : ℕ) : Type 0 where
  pub read : Rose reads reads' → ⊥
  pub put : Rose puts puts' → ⊥
  pub write : Rose writes writes' → ⊥

-- one of two statuses
abbrev pub is_either : ℕ → ℕ → ℕ → Bool
is_either first second status = status == first || status == second

-- The status of a policy that was read: done or refused as it says, or want of memory.
abbrev pub IsSettled : Files → ℕ → Type 0
IsSettled sources status = first_large most_of_all sources ≡ None → IsTrue (is_either (if is_accepted (compiled_of sources) then 0 else 1) 5 status)
