use Rattle.fault_laws.proofs.Joins.{joined}
use Rattle.fault_laws.proofs.joined.faults_are_joined.Goals as goal

pub returns : goal.returns
returns c = λ m lowest middle highest found later low high a b. joined m lowest middle highest low high found later a b
