use Rattle.first_fault_laws.proofs.Told.{told}
use Rattle.first_fault_laws.proofs.outcome.outcome_is_told.Goals as goal

pub returns : goal.returns
returns c = told
