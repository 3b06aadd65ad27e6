use Rattle.grammar_laws.proofs.Taken.{decl_in_takes}
use Rattle.grammar_laws.proofs.Runs.{decl_alone, file_alone}
use Rattle.grammar_laws.proofs.laws.declarations_are_read.Goals as goal

pub returns-clause-read : goal.returns-clause-read
returns-clause-read c = λ depth front rest decl p. (decl_in_takes depth decl).takes front rest p tt

pub returns-clause-alone : goal.returns-clause-alone
returns-clause-alone c = λ depth front more decl other p q. decl_alone depth front more decl other p q

pub returns-clause-one_file : goal.returns-clause-one_file
returns-clause-one_file c = λ depth toks decls others p q. file_alone depth toks decls others p q
