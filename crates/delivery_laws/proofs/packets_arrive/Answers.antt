use Rattle.delivery_laws.proofs.Arrived.{delivers}
use Rattle.delivery_laws.proofs.packets_arrive.Goals as goal

pub returns : goal.returns
returns c = delivers
