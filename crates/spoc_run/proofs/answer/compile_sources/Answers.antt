-- What the files compile to is the outcome of the compiler's definition.
use Rattle.std.proofs.Common.{map}
use Rattle.fault_text.specs.Texts.{pair_of}
use Rattle.spoc_run.proofs.Compiled.{compiled, refused}
use Rattle.spoc_run.proofs.answer.compile_sources.Goals as goal

pub returns-clause-ok : goal.returns-clause-ok
returns-clause-ok c = compiled c.compile.result (map pair_of c.args.sources.now) c.compile.ensures.ok c.compile.ensures.clear c.compile.ensures.exact c.compile.ensures.names

pub returns-clause-refused : goal.returns-clause-refused
returns-clause-refused c = refused c.compile.result (map pair_of c.args.sources.now) c.compile.ensures.refused c.compile.ensures.first
