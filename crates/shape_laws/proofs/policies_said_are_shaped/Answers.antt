use Rattle.shape_laws.proofs.Shaping.{shaped_and_wired}
use Rattle.shape_laws.proofs.policies_said_are_shaped.Goals as goal

pub returns : goal.returns
returns c = shaped_and_wired
