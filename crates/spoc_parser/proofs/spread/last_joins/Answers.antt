use Rattle.std.proofs.Common.{◌∙◌}
use Rattle.spoc_parser.proofs.Spreading.{last_is}
use Rattle.spoc_parser.proofs.spread.last_joins.Goals as goal

pub returns-in-len1-up : goal.returns-in-len1-up
returns-in-len1-up c = c.is_joint.ensures ∙ last_is c.args.text.now c.in-len1-up.len_at_least
