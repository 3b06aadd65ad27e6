use Rattle.source_laws.proofs.Meant.{sound_in, outcome_told}
use Rattle.source_laws.proofs.outcomes.outcome_of_sources_is_told.Goals as goal

pub returns : goal.returns
returns c = λ sources few. outcome_told sources (λ none. sound_in sources none few)
