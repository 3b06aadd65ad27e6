use Rattle.syntax_laws.proofs.Whole.{tree_says, tree_formed, tree_in_text}
use Rattle.syntax_laws.proofs.files.trees_of_a_text.Goals as goal

pub returns-clause-said : goal.returns-clause-said
returns-clause-said c = λ file depth toks rest tree ran. tree_says file depth toks rest tree ran

pub returns-clause-formed : goal.returns-clause-formed
returns-clause-formed c = λ file depth text toks rest tree h ran. tree_formed file depth text toks rest tree h ran

pub returns-clause-words : goal.returns-clause-words
returns-clause-words c = λ file depth text toks rest tree h ran. tree_in_text file depth text toks rest tree h ran
