use Rattle.fault_laws.proofs.EachRow.{permits_first}
use Rattle.fault_laws.proofs.rows.permits_past_the_limit.Goals as goal

pub returns : goal.returns
returns c = permits_first
