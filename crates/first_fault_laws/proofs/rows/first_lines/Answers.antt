use Rattle.first_fault_laws.proofs.Joined.{told_first}
use Rattle.first_fault_laws.proofs.rows.first_lines.Goals as goal

pub returns : goal.returns
returns c = told_first
