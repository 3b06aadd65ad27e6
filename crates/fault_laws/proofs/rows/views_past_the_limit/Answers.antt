use Rattle.fault_laws.proofs.EachRow.{views_first}
use Rattle.fault_laws.proofs.rows.views_past_the_limit.Goals as goal

pub returns : goal.returns
returns c = views_first
