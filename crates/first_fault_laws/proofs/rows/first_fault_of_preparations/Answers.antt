use Rattle.first_fault_laws.proofs.Joined.{prepared_first}
use Rattle.first_fault_laws.proofs.rows.first_fault_of_preparations.Goals as goal

pub returns : goal.returns
returns c = prepared_first
