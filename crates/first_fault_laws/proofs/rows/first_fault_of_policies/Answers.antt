use Rattle.first_fault_laws.proofs.Joined.{whole_first}
use Rattle.first_fault_laws.proofs.rows.first_fault_of_policies.Goals as goal

pub returns : goal.returns
returns c = whole_first
