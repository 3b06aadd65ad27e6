use Rattle.policy_laws.proofs.Accepted.{secures}
use Rattle.policy_laws.proofs.acceptance_secures.Goals as goal

pub returns : goal.returns
returns c = secures
