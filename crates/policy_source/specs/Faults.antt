-- Which fault of a policy's texts counts.
use Rattle.std.specs.Prelude.{ℕ, List, Option}
use Rattle.spoc_base.specs.declared.fault.Fault.{Fault}
use Rattle.policy_decls.specs.Faults.{fault_of}
use Rattle.policy_files.specs.Fault.{or_else, fault_of_texts}
use Rattle.policy_files.specs.OfTexts.{declared}

-- that of the texts themselves, and else that of the declarations which they say
abbrev pub fault_of_sources : List (List ℕ) → Option Fault
fault_of_sources texts = or_else (fault_of_texts texts) (fault_of (declared texts))
