use Rattle.route_laws.proofs.EachRow.{routes_first}
use Rattle.route_laws.proofs.rows.first_fault_of_routes.Goals as goal

pub returns : goal.returns
returns c = routes_first
