use Rattle.first_fault_laws.proofs.Joined.{first_up_to, none_at_all}
use Rattle.first_fault_laws.proofs.rows.first_faults_of_all_rows.Goals as goal

pub returns-clause-first : goal.returns-clause-first
returns-clause-first c = first_up_to

pub returns-clause-none : goal.returns-clause-none
returns-clause-none c = none_at_all
