use Rattle.outcome_laws.proofs.FileNames.{files_distinct}
use Rattle.outcome_laws.proofs.names.files_have_distinct_names.Goals as goal

pub returns : goal.returns
returns c = files_distinct
