use Rattle.first_fault_laws.proofs.Told.{written_told}
use Rattle.first_fault_laws.proofs.outcome.outcome_is_written.Goals as goal

pub returns : goal.returns
returns c = written_told
