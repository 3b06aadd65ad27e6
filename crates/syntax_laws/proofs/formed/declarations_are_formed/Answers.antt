use Rattle.syntax_laws.proofs.WellFormed.{decl_is_formed, file_is_formed}
use Rattle.syntax_laws.proofs.formed.declarations_are_formed.Goals as goal

pub returns-clause-decl : goal.returns-clause-decl
returns-clause-decl c = λ file depth decl front all p. decl_is_formed file depth decl front all p

pub returns-clause-file : goal.returns-clause-file
returns-clause-file c = λ file depth decls front all p. file_is_formed file depth decls front all p
