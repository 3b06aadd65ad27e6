use Rattle.decl_laws.proofs.Limited.{limits_kept}
use Rattle.decl_laws.proofs.named.policies_said_are_limited.Goals as goal

pub returns : goal.returns
returns c = limits_kept
