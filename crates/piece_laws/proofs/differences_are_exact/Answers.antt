use Rattle.piece_laws.proofs.Differences.{is_difference}
use Rattle.piece_laws.proofs.differences_are_exact.Goals as goal

pub returns : goal.returns
returns c = is_difference
