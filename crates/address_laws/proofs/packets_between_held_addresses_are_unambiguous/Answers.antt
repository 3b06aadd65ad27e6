use Rattle.address_laws.proofs.Accepted.{unambiguous_packets}
use Rattle.address_laws.proofs.packets_between_held_addresses_are_unambiguous.Goals as goal

pub returns : goal.returns
returns c = unambiguous_packets
