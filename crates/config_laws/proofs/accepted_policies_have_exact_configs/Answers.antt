use Rattle.config_laws.proofs.Written.{have_exact}
use Rattle.config_laws.proofs.accepted_policies_have_exact_configs.Goals as goal

pub returns : goal.returns
returns c = have_exact
