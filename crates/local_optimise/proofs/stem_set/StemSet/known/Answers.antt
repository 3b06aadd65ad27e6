use Rattle.std.proofs.Common.{◌∙◌, sym}
use Rattle.std.proofs.lemmas.Bool.{false≢true}
use Rattle.local_optimise.proofs.Walks.{may_be_all}
use Rattle.local_optimise.proofs.stem_set.StemSet.known.Goals as goal

pub loop-len-init : goal.loop-len-init
loop-len-init c = λ len f. absurd (false≢true (sym f ∙ may_be_all 256 len))
