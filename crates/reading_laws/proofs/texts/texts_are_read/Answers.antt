use Rattle.reading_laws.proofs.Whole.{texts_say, say_one}
use Rattle.reading_laws.proofs.texts.texts_are_read.Goals as goal

pub returns-clause-both : goal.returns-clause-both
returns-clause-both c = texts_say

pub returns-clause-alone : goal.returns-clause-alone
returns-clause-alone c = say_one
