use Rattle.meaning_laws.specs.Tables.{zones_of}
use Rattle.meaning_laws.proofs.ZonesThere.{zones_found}
use Rattle.meaning_laws.proofs.zones_are_there.Goals as goal

pub returns : goal.returns
returns c = λ p. (zones_of p, zones_found p)
