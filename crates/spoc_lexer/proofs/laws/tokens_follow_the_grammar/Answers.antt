use Rattle.std.proofs.Common.{sym, ◌∙◌}
use Rattle.spoc_lexer.proofs.Divided.{divided, stops_at}
use Rattle.spoc_lexer.proofs.Dividing.{has_tokens, stops_there, err_is}
use Rattle.spoc_lexer.proofs.laws.tokens_follow_the_grammar.Goals as goal

pub returns-clause-found : goal.returns-clause-found
returns-clause-found c = has_tokens

pub returns-clause-only : goal.returns-clause-only
returns-clause-only c = divided

pub returns-clause-stopped : goal.returns-clause-stopped
returns-clause-stopped c = λ text offset. (stops_there text offset, stops_at text offset)

pub returns-clause-one_stop : goal.returns-clause-one_stop
returns-clause-one_stop c = λ text offset other h k. err_is offset other (sym (stops_at text offset h) ∙ stops_at text other k)
