use Rattle.decl_laws.proofs.SoundSets.{sets_sound}
use Rattle.decl_laws.proofs.named.sets_said_are_sound.Goals as goal

pub returns : goal.returns
returns c = sets_sound
