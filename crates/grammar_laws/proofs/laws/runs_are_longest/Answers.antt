use Rattle.std.specs.Prelude.{length}
use Rattle.grammar_laws.proofs.Runs.{file_sound, file_some, file_longest, file_whole, file_spelled}
use Rattle.grammar_laws.proofs.laws.runs_are_longest.Goals as goal

pub returns-clause-some : goal.returns-clause-some
returns-clause-some c = λ depth toks. file_some depth toks

pub returns-clause-spelled : goal.returns-clause-spelled
returns-clause-spelled c = λ depth toks rest decls h. (file_sound depth (length toks)).fronts toks rest decls h

pub returns-clause-longest : goal.returns-clause-longest
returns-clause-longest c = λ depth toks rest decls h others front left p whole. file_longest depth toks rest decls h others front left p whole

pub returns-clause-file : goal.returns-clause-file
returns-clause-file c = λ depth toks decls. (λ p. file_whole depth toks decls p, λ h. file_spelled depth toks decls h)
