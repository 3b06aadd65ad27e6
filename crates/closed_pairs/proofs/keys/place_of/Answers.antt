use Rattle.closed_pairs.proofs.Searching.{equal_is, not_missed}
use Rattle.closed_pairs.proofs.keys.place_of.Goals as goal

pub returns-in-Ok-clause-is : goal.returns-in-Ok-clause-is
returns-in-Ok-clause-is c = equal_is _ _ ((c.in-Ok.ensures {u = tt}).ok (0, 0))

pub returns-in-Err-clause-none : goal.returns-in-Err-clause-none
returns-in-Err-clause-none c = not_missed (c.args.pair.0.0, c.args.pair.1.0) c.args.keys.now c.in-Err.field-0 c.requires (c.in-Err.ensures {u = tt}).position
