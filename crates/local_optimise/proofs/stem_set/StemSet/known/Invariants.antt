-- So far each entry that is false tells right.
use Rattle.local_optimise.specs.Keys.{TellsStems}
use Rattle.local_optimise.proofs.stem_set.StemSet.known.Given as goal

abbrev pub invariant-loop-len : goal.invariant-loop-len
invariant-loop-len l = TellsStems l.self.stems.keys l.a.0 l.known
