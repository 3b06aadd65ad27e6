use Rattle.route_laws.proofs.EachRow.{ambiguous_first}
use Rattle.route_laws.proofs.rows.first_ambiguous_hop.Goals as goal

pub returns : goal.returns
returns c = ambiguous_first
