use Rattle.fault_text.proofs.Told.{told}
use Rattle.fault_text.proofs.laws.told_lines_are_those.Goals as goal

pub returns : goal.returns
returns c = told
