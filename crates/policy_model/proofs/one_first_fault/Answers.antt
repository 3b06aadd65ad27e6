use Rattle.policy_model.proofs.OneFault.{one_first_fault}
use Rattle.policy_model.proofs.one_first_fault.Goals as goal

pub returns : goal.returns
returns c = one_first_fault
