use Rattle.fault_laws.proofs.EachRow.{services_first}
use Rattle.fault_laws.proofs.joined.first_fault_of_services.Goals as goal

pub returns : goal.returns
returns c = services_first
