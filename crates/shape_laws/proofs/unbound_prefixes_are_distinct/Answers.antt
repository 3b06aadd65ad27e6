use Rattle.shape_laws.proofs.Unalike.{distinct_where_unbound}
use Rattle.shape_laws.proofs.unbound_prefixes_are_distinct.Goals as goal

pub returns : goal.returns
returns c = distinct_where_unbound
