use Rattle.source_laws.proofs.Meant.{one_first}
use Rattle.source_laws.proofs.firsts.one_first_of_sources.Goals as goal

pub returns : goal.returns
returns c = one_first
