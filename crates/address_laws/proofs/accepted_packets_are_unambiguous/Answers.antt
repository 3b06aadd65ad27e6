use Rattle.address_laws.proofs.Accepted.{accepted_packets}
use Rattle.address_laws.proofs.accepted_packets_are_unambiguous.Goals as goal

pub returns : goal.returns
returns c = accepted_packets
