use Rattle.grammar_laws.proofs.Spelled.{decl_in_sound}
use Rattle.grammar_laws.proofs.Taken.{decl_in_takes}
use Rattle.grammar_laws.proofs.Deeper.{AllSpelled, AllRead, runs_are_the_same}
use Rattle.grammar_laws.proofs.depth_law.more_levels_read_nothing_else.Goals as goal

spelled : AllSpelled
spelled depth toks rest decl h = (decl_in_sound depth).fronts toks rest decl h

read : AllRead
read depth front rest decl h = (decl_in_takes depth decl).takes front rest h tt

pub returns : goal.returns
returns c = λ more depth toks deep none. runs_are_the_same spelled read more depth deep toks none
