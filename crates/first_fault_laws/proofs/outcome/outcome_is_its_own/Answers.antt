use Rattle.first_fault_laws.proofs.Told.{its_own}
use Rattle.first_fault_laws.proofs.outcome.outcome_is_its_own.Goals as goal

pub returns : goal.returns
returns c = its_own
