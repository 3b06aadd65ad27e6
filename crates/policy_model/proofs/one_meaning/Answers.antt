use Rattle.policy_model.proofs.OneMeaning.{one_meaning}
use Rattle.policy_model.proofs.one_meaning.Goals as goal

pub returns : goal.returns
returns c = one_meaning
