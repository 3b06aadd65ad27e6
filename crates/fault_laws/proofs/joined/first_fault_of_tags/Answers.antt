use Rattle.fault_laws.proofs.EachRow.{tags_first}
use Rattle.fault_laws.proofs.joined.first_fault_of_tags.Goals as goal

pub returns : goal.returns
returns c = tags_first
