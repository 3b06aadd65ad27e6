use Rattle.outcome_laws.proofs.Listed.{list_written}
use Rattle.outcome_laws.proofs.lists_are_written.Goals as goal

pub returns : goal.returns
returns c = list_written
