use Rattle.shadow_laws.proofs.Distinct.{distinct_prefixes}
use Rattle.shadow_laws.proofs.views_without_fault_are_distinct.Goals as goal

pub returns : goal.returns
returns c = distinct_prefixes
