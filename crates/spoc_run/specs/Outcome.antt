-- What the program answers for a policy.
use Rattle.std.specs.Prelude.{ℕ, Bool, true, false, not, ◌&&◌, ◌==◌, List, [], ◌∷◌, ◌++◌, Option, Some, None, Result, Ok, Err, if◌then◌else◌, length, codes}
use Rattle.std.specs.Option.{option_map, option_and_then}
use Rattle.std.specs.Str.{bytes_eq}
use Rattle.spoc_io.specs.Files.{Files}
use Rattle.policy_outcome.specs.Outcome.{Written, summary_text}
use Rattle.source_laws.specs.Sources.{outcome_of}
use Rattle.spoc_run.specs.Policy.{policy_of, first_large, most_of_all}

-- whether the words are `compile POLICY CODE`
abbrev pub is_compile : List (List ℕ) → Bool
is_compile (form ∷ policy ∷ code ∷ []) = bytes_eq form (codes "compile") && (not (length policy == 0) && not (length code == 0))
is_compile words = false

-- what the policy's files compile to: the device files and the summary's counts, or the line of a fault
unfoldable pub compiled_of : Files → Result Written (List ℕ)
compiled_of sources = outcome_of sources

-- the policy is accepted
abbrev pub is_accepted : Result Written (List ℕ) → Bool
is_accepted (Ok written) = true
is_accepted (Err line) = false

-- the device files of a policy, which are none where it is refused
abbrev pub device_files : Result Written (List ℕ) → Files
device_files (Ok written) = written.files
device_files (Err line) = []

-- the summary of a policy that is accepted
abbrev pub summary_of : Result Written (List ℕ) → Option (List ℕ)
summary_of (Ok written) = Some (summary_text written.counts)
summary_of (Err line) = None

-- the line of a policy that is refused
abbrev pub refusal_of : Result Written (List ℕ) → Option (List ℕ)
refusal_of (Ok written) = None
refusal_of (Err line) = Some line

-- the text of a status that depends on the policy's files
abbrev pub policy_text : ℕ → Files → Option (List ℕ)
policy_text status sources =
    if status == 0 then summary_of (compiled_of sources)
    else if status == 1 then refusal_of (compiled_of sources)
    else if status == 9 then option_map (λ path. codes "too large " ++ path ++ codes "\n") (first_large most_of_all sources)
    else None

-- the text of a status, where it is known
abbrev pub text_of : ℕ → Option Files → Option (List ℕ)
text_of status files =
    if status == 2 then Some (codes "usage\n")
    else if status == 3 then Some (codes "read fault\n")
    else if status == 5 then Some (codes "memory\n")
    else option_and_then (λ fs. policy_text status (policy_of fs)) files
