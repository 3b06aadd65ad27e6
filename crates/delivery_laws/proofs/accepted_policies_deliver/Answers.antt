use Rattle.delivery_laws.proofs.AcceptedDeliver.{accepted_deliver}
use Rattle.delivery_laws.proofs.accepted_policies_deliver.Goals as goal

pub returns : goal.returns
returns c = accepted_deliver
