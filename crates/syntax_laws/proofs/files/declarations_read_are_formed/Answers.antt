use Rattle.syntax_laws.proofs.Spelled.{run_spelled}
use Rattle.syntax_laws.proofs.Whole.{run_formed, run_in_text}
use Rattle.syntax_laws.proofs.files.declarations_read_are_formed.Goals as goal

pub returns-clause-formed : goal.returns-clause-formed
returns-clause-formed c = λ file depth text toks rest decls h run. run_formed file depth text toks rest decls h run

pub returns-clause-words : goal.returns-clause-words
returns-clause-words c = λ file depth text toks rest decls h run. run_in_text file depth text toks rest decls h run

pub returns-clause-spelled : goal.returns-clause-spelled
returns-clause-spelled c = λ file depth text toks rest decls h run. run_spelled file depth text toks rest decls h run
