-- What sources compile to, by their paths and texts.
use Rattle.std.specs.Prelude.{ℕ, List, map, Result}
use Rattle.policy_model.specs.Policy.{Policy}
use Rattle.meaning_laws.specs.Tables.{meaning_of}
use Rattle.policy_decls.specs.Said.{policy_said}
use Rattle.policy_files.specs.OfTexts.{declared}
use Rattle.policy_source.specs.Faults.{fault_of_sources}
use Rattle.fault_text.specs.Texts.{fault_line}
use Rattle.policy_outcome.specs.Outcome.{Written, unless, outcome_for}

-- the texts of sources
abbrev pub source_texts : List (List ℕ × List ℕ) → List (List ℕ)
source_texts sources = map (λ s. s.1) sources

-- the policy that sources declare
abbrev pub policy_in : List (List ℕ × List ℕ) → Policy
policy_in sources = policy_said (declared (source_texts sources))

-- The files and the counts of a policy, or the line of its first fault, by the paths and texts of its sources: that of the texts and of what they declare
-- comes before all others.
abbrev pub outcome_of : List (List ℕ × List ℕ) → Result Written (List ℕ)
outcome_of sources = unless (fault_of_sources (source_texts sources)) (fault_line sources) (outcome_for (meaning_of (policy_in sources)))
