use Rattle.policy_laws.proofs.Devices.{passing_local}
use Rattle.policy_laws.proofs.passing_is_local.Goals as goal

pub returns : goal.returns
returns c = passing_local
