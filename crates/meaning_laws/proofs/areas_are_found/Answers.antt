use Rattle.meaning_laws.proofs.RowsThere.{areas_found}
use Rattle.meaning_laws.proofs.areas_are_found.Goals as goal

pub returns : goal.returns
returns c = areas_found
