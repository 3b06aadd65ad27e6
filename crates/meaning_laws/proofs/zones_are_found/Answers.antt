use Rattle.meaning_laws.proofs.ZonesThere.{zones_found}
use Rattle.meaning_laws.proofs.zones_are_found.Goals as goal

pub returns : goal.returns
returns c = zones_found
