use Rattle.fault_laws.proofs.EachRow.{twice_first}
use Rattle.fault_laws.proofs.rows.first_translated_twice.Goals as goal

pub returns : goal.returns
returns c = twice_first
