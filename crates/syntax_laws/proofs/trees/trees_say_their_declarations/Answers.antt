use Rattle.syntax_laws.proofs.Seeing.{decl_is, decls_are}
use Rattle.syntax_laws.proofs.trees.trees_say_their_declarations.Goals as goal

pub returns-clause-decl : goal.returns-clause-decl
returns-clause-decl c = λ file depth decl tree h. decl_is file depth decl tree h

pub returns-clause-file : goal.returns-clause-file
returns-clause-file c = λ file depth decls tree h. decls_are file depth decls tree h
