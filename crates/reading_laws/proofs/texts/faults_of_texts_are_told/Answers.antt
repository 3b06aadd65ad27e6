use Rattle.reading_laws.proofs.Whole.{faults_are_told}
use Rattle.reading_laws.proofs.texts.faults_of_texts_are_told.Goals as goal

pub returns : goal.returns
returns c = faults_are_told
