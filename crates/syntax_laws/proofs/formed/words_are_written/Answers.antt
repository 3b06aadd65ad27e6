use Rattle.syntax_laws.proofs.Written.{are_written}
use Rattle.syntax_laws.proofs.formed.words_are_written.Goals as goal

pub returns : goal.returns
returns c = λ text toks h. are_written text toks h
