use Rattle.shadow_laws.proofs.Row.{shadow_first}
use Rattle.shadow_laws.proofs.first_shadowed.Goals as goal

pub returns : goal.returns
returns c = shadow_first
