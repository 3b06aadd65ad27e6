use Rattle.meaning_laws.proofs.RowsThere.{views_found}
use Rattle.meaning_laws.proofs.views_are_found.Goals as goal

pub returns : goal.returns
returns c = views_found
