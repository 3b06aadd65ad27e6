use Rattle.policy_laws.proofs.Denied.{denies}
use Rattle.policy_laws.proofs.denials_are_exact.Goals as goal

pub returns : goal.returns
returns c = denies
