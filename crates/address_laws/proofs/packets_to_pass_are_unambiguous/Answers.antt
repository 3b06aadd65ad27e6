use Rattle.address_laws.proofs.Passing.{passing_packets}
use Rattle.address_laws.proofs.packets_to_pass_are_unambiguous.Goals as goal

pub returns : goal.returns
returns c = passing_packets
