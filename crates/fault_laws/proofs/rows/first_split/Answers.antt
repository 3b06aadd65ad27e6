use Rattle.fault_laws.proofs.EachRow.{split_first}
use Rattle.fault_laws.proofs.rows.first_split.Goals as goal

pub returns : goal.returns
returns c = split_first
