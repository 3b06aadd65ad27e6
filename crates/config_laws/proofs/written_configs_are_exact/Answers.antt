use Rattle.config_laws.proofs.Written.{exact_written}
use Rattle.config_laws.proofs.written_configs_are_exact.Goals as goal

pub returns : goal.returns
returns c = exact_written
