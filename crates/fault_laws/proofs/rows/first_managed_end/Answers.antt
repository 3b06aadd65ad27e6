use Rattle.fault_laws.proofs.EachRow.{managed_first}
use Rattle.fault_laws.proofs.rows.first_managed_end.Goals as goal

pub returns : goal.returns
returns c = managed_first
