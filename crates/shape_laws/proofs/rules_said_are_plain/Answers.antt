use Rattle.decl_laws.proofs.Plain.{rules_plain}
use Rattle.shape_laws.proofs.rules_said_are_plain.Goals as goal

pub returns : goal.returns
returns c = rules_plain
