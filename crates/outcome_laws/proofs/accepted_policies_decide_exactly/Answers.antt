use Rattle.outcome_laws.proofs.Deciding.{accepted_decide}
use Rattle.outcome_laws.proofs.accepted_policies_decide_exactly.Goals as goal

pub returns : goal.returns
returns c = accepted_decide
