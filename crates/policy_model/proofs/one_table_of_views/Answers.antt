use Rattle.policy_model.proofs.OneMeaning.{one_table_of_views}
use Rattle.policy_model.proofs.one_table_of_views.Goals as goal

pub returns : goal.returns
returns c = one_table_of_views
