use Rattle.policy_laws.proofs.InConfigs.{nothing_else_in}
use Rattle.policy_laws.proofs.lists_of_configs_pass_nothing_else.Goals as goal

pub returns : goal.returns
returns c = nothing_else_in
