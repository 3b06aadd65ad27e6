use Rattle.config_laws.proofs.InOrder.{config_there}
use Rattle.config_laws.proofs.configs_are_in_order.Goals as goal

pub returns : goal.returns
returns c = config_there
