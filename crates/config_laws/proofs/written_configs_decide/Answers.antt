use Rattle.config_laws.proofs.Written.{decide}
use Rattle.config_laws.proofs.written_configs_decide.Goals as goal

pub returns : goal.returns
returns c = decide
