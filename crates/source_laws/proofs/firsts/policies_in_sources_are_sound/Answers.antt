use Rattle.source_laws.proofs.Meant.{sound_in}
use Rattle.source_laws.proofs.firsts.policies_in_sources_are_sound.Goals as goal

pub returns : goal.returns
returns c = sound_in
