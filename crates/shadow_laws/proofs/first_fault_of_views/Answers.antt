use Rattle.shadow_laws.proofs.Row.{view_faults_first}
use Rattle.shadow_laws.proofs.first_fault_of_views.Goals as goal

pub returns : goal.returns
returns c = view_faults_first
