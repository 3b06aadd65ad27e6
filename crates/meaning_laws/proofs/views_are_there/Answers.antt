use Rattle.meaning_laws.specs.Tables.{views_of}
use Rattle.meaning_laws.proofs.RowsThere.{views_found}
use Rattle.meaning_laws.proofs.views_are_there.Goals as goal

pub returns : goal.returns
returns c = λ s. (views_of s, views_found s)
