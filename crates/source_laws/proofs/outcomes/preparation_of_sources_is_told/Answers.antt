use Rattle.source_laws.proofs.Meant.{preparation_told}
use Rattle.source_laws.proofs.outcomes.preparation_of_sources_is_told.Goals as goal

pub returns : goal.returns
returns c = preparation_told
