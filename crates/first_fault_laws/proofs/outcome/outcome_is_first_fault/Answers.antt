use Rattle.first_fault_laws.proofs.Told.{first_told}
use Rattle.first_fault_laws.proofs.outcome.outcome_is_first_fault.Goals as goal

pub returns : goal.returns
returns c = first_told
