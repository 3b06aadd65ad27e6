use Rattle.policy_laws.proofs.InConfigs.{exact_in}
use Rattle.policy_laws.proofs.lists_of_configs_are_exact.Goals as goal

pub returns : goal.returns
returns c = exact_in
