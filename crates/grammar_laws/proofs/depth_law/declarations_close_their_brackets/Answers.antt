use Rattle.grammar_laws.proofs.Balanced.{decl_in_even}
use Rattle.grammar_laws.proofs.depth_law.declarations_close_their_brackets.Goals as goal

pub returns : goal.returns
returns c = λ depth level decl front h. (decl_in_even depth decl).holds level front h
