use Rattle.first_fault_laws.proofs.Told.{past_preparations}
use Rattle.first_fault_laws.proofs.outcome.outcome_past_preparations.Goals as goal

pub returns : goal.returns
returns c = past_preparations
