use Rattle.policy_files.proofs.Order.{more, joined}
use Rattle.policy_files.proofs.laws.the_earliest_kind_counts.Goals as goal

pub returns-clause-more : goal.returns-clause-more
returns-clause-more c = more

pub returns-clause-joined : goal.returns-clause-joined
returns-clause-joined c = joined
