use Rattle.fault_laws.proofs.EachRow.{walks_first}
use Rattle.fault_laws.proofs.joined.first_fault_of_walks.Goals as goal

pub returns : goal.returns
returns c = walks_first
