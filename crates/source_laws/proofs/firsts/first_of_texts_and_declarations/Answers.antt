use Rattle.std.proofs.Common.{sym}
use Rattle.source_laws.proofs.Listed.{sources_first}
use Rattle.source_laws.proofs.firsts.first_of_texts_and_declarations.Goals as goal

pub returns : goal.returns
returns c = λ sources. sym (sources_first sources)
