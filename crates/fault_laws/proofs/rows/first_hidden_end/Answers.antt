use Rattle.fault_laws.proofs.EachRow.{hidden_first}
use Rattle.fault_laws.proofs.rows.first_hidden_end.Goals as goal

pub returns : goal.returns
returns c = hidden_first
