use Rattle.syntax_laws.proofs.Mentions.{names_are_shown, uses_are_shown, ifaces_are_words}
use Rattle.syntax_laws.proofs.names.names_are_words.Goals as goal

pub returns-clause-given : goal.returns-clause-given
returns-clause-given c = λ decl. names_are_shown decl

pub returns-clause-used : goal.returns-clause-used
returns-clause-used c = λ decl. uses_are_shown decl

pub returns-clause-interfaces : goal.returns-clause-interfaces
returns-clause-interfaces c = λ decl. ifaces_are_words decl
