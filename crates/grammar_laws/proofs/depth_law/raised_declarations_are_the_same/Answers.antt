use Rattle.grammar_laws.proofs.Lowering.{adds_up}
use Rattle.grammar_laws.proofs.Raising.{raised_by_spells, files_by_spell}
use Rattle.grammar_laws.proofs.Undoing.{raised_by_apart}
use Rattle.grammar_laws.proofs.depth_law.raised_declarations_are_the_same.Goals as goal

pub returns-clause-levels : goal.returns-clause-levels
returns-clause-levels c = adds_up

pub returns-clause-spelled : goal.returns-clause-spelled
returns-clause-spelled c = raised_by_spells

pub returns-clause-files : goal.returns-clause-files
returns-clause-files c = files_by_spell

pub returns-clause-apart : goal.returns-clause-apart
returns-clause-apart c = raised_by_apart
