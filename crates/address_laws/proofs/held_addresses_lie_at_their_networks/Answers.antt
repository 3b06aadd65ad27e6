use Rattle.address_laws.proofs.Lying.{lies_at_its_own}
use Rattle.address_laws.proofs.held_addresses_lie_at_their_networks.Goals as goal

pub returns : goal.returns
returns c = λ m sound shaped none at there e held shown. lies_at_its_own m none at there sound shaped e held shown
