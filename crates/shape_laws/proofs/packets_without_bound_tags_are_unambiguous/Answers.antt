use Rattle.shape_laws.proofs.Unbound.{unambiguous_where_unbound}
use Rattle.shape_laws.proofs.packets_without_bound_tags_are_unambiguous.Goals as goal

pub returns : goal.returns
returns c = unambiguous_where_unbound
