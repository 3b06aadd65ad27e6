use Rattle.delivery_laws.proofs.Ends.{ends}
use Rattle.delivery_laws.proofs.deliveries_end.Goals as goal

pub returns : goal.returns
returns c = ends
