use Rattle.decl_laws.proofs.Numbered.{numbered}
use Rattle.decl_laws.proofs.named.policies_said_are_numbered.Goals as goal

pub returns : goal.returns
returns c = numbered
