use Rattle.policy_source.proofs.Sourced.{formed, spelled, written}
use Rattle.policy_source.proofs.laws.declarations_are_formed_and_written.Goals as goal

pub returns-clause-formed : goal.returns-clause-formed
returns-clause-formed c = λ texts. formed texts

pub returns-clause-spelled : goal.returns-clause-spelled
returns-clause-spelled c = λ texts. spelled texts

pub returns-clause-written : goal.returns-clause-written
returns-clause-written c = λ sources. written sources
