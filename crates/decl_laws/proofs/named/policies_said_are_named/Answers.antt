use Rattle.decl_laws.proofs.Distinct.{names_distinct}
use Rattle.decl_laws.proofs.named.policies_said_are_named.Goals as goal

pub returns : goal.returns
returns c = names_distinct
