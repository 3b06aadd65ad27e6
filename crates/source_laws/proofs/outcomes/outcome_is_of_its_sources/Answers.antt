use Rattle.source_laws.proofs.Meant.{outcome_told}
use Rattle.source_laws.proofs.outcomes.outcome_is_of_its_sources.Goals as goal

pub returns : goal.returns
returns c = outcome_told
