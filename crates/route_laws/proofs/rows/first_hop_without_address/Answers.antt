use Rattle.route_laws.proofs.EachRow.{bare_first}
use Rattle.route_laws.proofs.rows.first_hop_without_address.Goals as goal

pub returns : goal.returns
returns c = bare_first
