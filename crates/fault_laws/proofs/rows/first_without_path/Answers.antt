use Rattle.fault_laws.proofs.EachRow.{path_first}
use Rattle.fault_laws.proofs.rows.first_without_path.Goals as goal

pub returns : goal.returns
returns c = path_first
