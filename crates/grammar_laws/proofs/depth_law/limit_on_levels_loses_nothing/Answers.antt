use Rattle.grammar_laws.proofs.Lowering.{decls_are_lowered, files_are_lowered}
use Rattle.grammar_laws.proofs.depth_law.limit_on_levels_loses_nothing.Goals as goal

pub returns-clause-decls : goal.returns-clause-decls
returns-clause-decls c = decls_are_lowered

pub returns-clause-files : goal.returns-clause-files
returns-clause-files c = files_are_lowered
