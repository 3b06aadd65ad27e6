use Rattle.policy_laws.proofs.InterfaceViews.{its_view}
use Rattle.policy_laws.proofs.interface_views.Goals as goal

pub returns : goal.returns
returns c = its_view
