use Rattle.std.proofs.Common.{refl}
use Rattle.policy_build.proofs.Unions.{no_parts}
use Rattle.policy_build.proofs.groups.nothing.Goals as goal

pub returns : goal.returns
returns c = no_parts _ refl
