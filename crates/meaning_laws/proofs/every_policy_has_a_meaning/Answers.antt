use Rattle.meaning_laws.proofs.MeaningThere.{meaning_there}
use Rattle.meaning_laws.proofs.every_policy_has_a_meaning.Goals as goal

pub returns : goal.returns
returns c = meaning_there
