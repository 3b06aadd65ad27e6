-- The first fault of a policy over all rows that are looked at, and what is told of it.
use Rattle.std.specs.Prelude.{◌≡◌, ℕ, List, [], ◌∷◌, Option, Some, None, Result, Ok, Err}
use Rattle.policy_model.specs.FirstFault.{FaultCase}
use Rattle.policy_model.specs.Headline.{Meaning}
use Rattle.topology.specs.First.{HasNone, IsFirstWithin}
use Rattle.fault_laws.specs.Cases.{first_of, split_case}
use Rattle.fault_text.specs.Cases.{case_line}
use Rattle.policy_outcome.specs.Outcome.{Written, tag_case, view_case, service_case, walk_case, written_for}

-- The last row that is looked at: too many lines. The rows behind it are of routes, and none are written yet.
abbrev pub last_row : ℕ
last_row = 11

-- the first fault of areas, tags and views, which is found before services are looked at
abbrev pub prepare_case : Meaning → Option FaultCase
prepare_case m = first_of (split_case m ∷ tag_case m ∷ view_case m ∷ [])

-- the first fault of all rows up to the last one
abbrev pub whole_case : Meaning → Option FaultCase
whole_case m = first_of (prepare_case m ∷ service_case m ∷ walk_case m ∷ [])

-- The line is that of the first fault of these rows.
pub record IsFirstLine (m : Meaning) (lowest highest : ℕ) (line : List ℕ) : Type 0 where
  pub case : FaultCase
  pub first : IsFirstWithin m lowest highest case
  pub its : line ≡ case_line m.site case

-- What is told of these rows: the line of their first fault, and nothing just where they have none.
abbrev pub IsToldOf : Meaning → ℕ → ℕ → Option (List ℕ) → Type 0
IsToldOf m lowest highest None = HasNone m lowest highest
IsToldOf m lowest highest (Some line) = IsFirstLine m lowest highest line

-- What a policy comes to: what is written for it where it has no fault, and else the line of its first fault.
abbrev pub IsOutcomeOf : Meaning → Result Written (List ℕ) → Type 0
IsOutcomeOf m (Ok written) = HasNone m 0 last_row × (written ≡ written_for m)
IsOutcomeOf m (Err line) = IsFirstLine m 0 last_row line
