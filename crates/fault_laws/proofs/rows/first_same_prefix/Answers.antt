use Rattle.fault_laws.proofs.EachRow.{same_first}
use Rattle.fault_laws.proofs.rows.first_same_prefix.Goals as goal

pub returns : goal.returns
returns c = same_first
