use Rattle.dev_config.proofs.LookUps.{agree}
use Rattle.dev_config.proofs.laws.look_ups_agree.Goals as goal

pub returns : goal.returns
returns c = agree
