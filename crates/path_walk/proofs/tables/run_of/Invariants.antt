use Rattle.path_walk.proofs.Runs.{IsRun}
use Rattle.path_walk.proofs.tables.run_of.Given as goal

abbrev pub invariant-loop-pair : goal.invariant-loop-pair
invariant-loop-pair l = IsRun l.first l.rest l.zones.items l.pair-index
