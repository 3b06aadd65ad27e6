use Rattle.config_laws.proofs.Written.{deliver_written}
use Rattle.config_laws.proofs.written_configs_deliver.Goals as goal

pub returns : goal.returns
returns c = deliver_written
