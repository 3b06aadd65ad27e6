use Rattle.fault_laws.proofs.EachRow.{inside_first}
use Rattle.fault_laws.proofs.rows.first_inside.Goals as goal

pub returns : goal.returns
returns c = inside_first
