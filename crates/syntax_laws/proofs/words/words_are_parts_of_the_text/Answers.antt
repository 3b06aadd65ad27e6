use Rattle.syntax_laws.proofs.Slicing.{decl_in_text, file_in_text}
use Rattle.syntax_laws.proofs.words.words_are_parts_of_the_text.Goals as goal

pub returns-clause-decl : goal.returns-clause-decl
returns-clause-decl c = λ file depth text toks before front behind decl h e p. decl_in_text file text toks before front behind depth decl h e p

pub returns-clause-file : goal.returns-clause-file
returns-clause-file c = λ file depth text toks before front behind decls h e p. file_in_text file text toks before front behind depth decls h e p
