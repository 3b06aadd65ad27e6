use Rattle.policy_laws.proofs.Sharing.{kept}
use Rattle.policy_laws.proofs.listed_restrictions_are_all.Goals as goal

pub returns : goal.returns
returns c = kept
