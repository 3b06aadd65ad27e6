use Rattle.std.specs.Prelude.{length}
use Rattle.grammar_laws.proofs.Spelled.{decl_in_sound}
use Rattle.grammar_laws.proofs.Runs.{file_sound}
use Rattle.grammar_laws.proofs.laws.declarations_are_spelled.Goals as goal

pub returns-clause-declaration : goal.returns-clause-declaration
returns-clause-declaration c = λ depth toks rest decl h. (decl_in_sound depth).fronts toks rest decl h

pub returns-clause-run : goal.returns-clause-run
returns-clause-run c = λ depth toks rest decls h. (file_sound depth (length toks)).fronts toks rest decls h
