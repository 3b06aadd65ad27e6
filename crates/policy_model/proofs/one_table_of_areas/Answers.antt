use Rattle.policy_model.proofs.OneMeaning.{one_table_of_areas}
use Rattle.policy_model.proofs.one_table_of_areas.Goals as goal

pub returns : goal.returns
returns c = one_table_of_areas
