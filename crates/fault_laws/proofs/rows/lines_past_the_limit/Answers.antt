use Rattle.fault_laws.proofs.EachRow.{lines_first}
use Rattle.fault_laws.proofs.rows.lines_past_the_limit.Goals as goal

pub returns : goal.returns
returns c = lines_first
