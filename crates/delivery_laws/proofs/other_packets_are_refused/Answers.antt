use Rattle.delivery_laws.proofs.Refused.{refuses}
use Rattle.delivery_laws.proofs.other_packets_are_refused.Goals as goal

pub returns : goal.returns
returns c = refuses
