-- No name is there.
use Rattle.std.specs.List.{IsDistinct}
use Rattle.spoc_run.proofs.cases.empty.Goals as goal

pub new-requires : goal.new-requires
unfolding IsDistinct
new-requires c = rw c.new-files.ensures.items tt
