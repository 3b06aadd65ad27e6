use Rattle.decl_laws.proofs.WellFormed.{well_formed}
use Rattle.decl_laws.proofs.well_formed.policies_said_are_well_formed.Goals as goal

pub returns : goal.returns
returns c = well_formed
