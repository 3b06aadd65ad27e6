use Rattle.shape_laws.proofs.Lists.{lists_by_router_pass}
use Rattle.shape_laws.proofs.lists_by_router_pass.Goals as goal

pub returns : goal.returns
returns c = lists_by_router_pass
