use Rattle.shape_laws.proofs.Unalike.{distinct}
use Rattle.shape_laws.proofs.unlike_prefixes_are_distinct.Goals as goal

pub returns : goal.returns
returns c = distinct
