-- All of a policy's tables together.
use Rattle.std.proofs.Common.{refl}
use Rattle.policy_model.specs.Policy.{Policy}
use Rattle.policy_model.specs.Headline.{Meaning, IsMeaning}
use Rattle.meaning_laws.specs.Tables.{site_of_policy, meaning_of}
use Rattle.meaning_laws.proofs.ZonesThere.{zones_found}
use Rattle.meaning_laws.proofs.RowsThere.{views_found, areas_found}

pub meaning_found : (p : Policy) → IsMeaning p (meaning_of p)
meaning_found p = record { policy = refl; zones = zones_found p; views = views_found (site_of_policy p); areas = areas_found (site_of_policy p) }

pub meaning_there : (p : Policy) → (m : Meaning) × IsMeaning p m
meaning_there p = (meaning_of p, meaning_found p)
