use Rattle.config_laws.proofs.InOrder.{list_there}
use Rattle.config_laws.proofs.lists_are_in_order.Goals as goal

pub returns : goal.returns
returns c = list_there
