use Rattle.policy_laws.proofs.Accepted.{accepted_exact}
use Rattle.policy_laws.proofs.accepted_policies_are_exact.Goals as goal

pub returns : goal.returns
returns c = accepted_exact
