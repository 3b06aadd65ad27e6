use Rattle.fault_laws.proofs.EachRow.{conflict_first}
use Rattle.fault_laws.proofs.rows.first_conflict.Goals as goal

pub returns : goal.returns
returns c = conflict_first
