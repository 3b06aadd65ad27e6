use Rattle.policy_laws.proofs.Devices.{lists_pass}
use Rattle.policy_laws.proofs.lists_pass.Goals as goal

pub returns : goal.returns
returns c = lists_pass
