use Rattle.meaning_laws.proofs.MeaningThere.{meaning_found}
use Rattle.meaning_laws.proofs.meanings_are_found.Goals as goal

pub returns : goal.returns
returns c = meaning_found
