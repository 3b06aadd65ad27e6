use Rattle.decl_laws.proofs.Alike.{alike}
use Rattle.decl_laws.proofs.kept.rules_count_alike.Goals as goal

pub returns : goal.returns
returns c = alike
