use Rattle.shape_laws.proofs.Lists.{list_there}
use Rattle.shape_laws.proofs.lists_by_router_are_in_order.Goals as goal

pub returns : goal.returns
returns c = list_there
