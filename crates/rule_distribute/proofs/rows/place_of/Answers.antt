use Rattle.rule_distribute.proofs.Tuples.{equal_is, not_missed}
use Rattle.rule_distribute.proofs.rows.place_of.Goals as goal

pub unreachable-requires : goal.unreachable-requires
unreachable-requires c = not_missed c.args.pair c.args.pairs.now c.in-Err.field-0 c.requires.there c.requires.order (c.in-Err.ensures {u = tt}).position

pub returns-clause-is : goal.returns-clause-is
returns-clause-is c = equal_is _ _ ((c.in-Ok.ensures {u = tt}).ok (0, 0))
