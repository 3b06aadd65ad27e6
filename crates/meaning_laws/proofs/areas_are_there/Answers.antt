use Rattle.meaning_laws.specs.Tables.{areas_of}
use Rattle.meaning_laws.proofs.RowsThere.{areas_found}
use Rattle.meaning_laws.proofs.areas_are_there.Goals as goal

pub returns : goal.returns
returns c = λ s. (areas_of s, areas_found s)
