use Rattle.std.proofs.Common.{◌∙◌}
use Rattle.spoc_parser.proofs.Reaching.{all_pass}
use Rattle.spoc_parser.proofs.within.are_in_reach.Goals as goal

pub returns-clause-no : goal.returns-clause-no
returns-clause-no c h = c.all_in_reach.ensures ∙ all_pass c.args.tokens.now h
