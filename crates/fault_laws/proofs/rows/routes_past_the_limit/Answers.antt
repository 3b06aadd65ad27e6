use Rattle.fault_laws.proofs.EachRow.{routes_first}
use Rattle.fault_laws.proofs.rows.routes_past_the_limit.Goals as goal

pub returns : goal.returns
returns c = routes_first
