use Rattle.first_fault_laws.proofs.Told.{accepted_told}
use Rattle.first_fault_laws.proofs.outcome.outcome_is_accepted.Goals as goal

pub returns : goal.returns
returns c = accepted_told
