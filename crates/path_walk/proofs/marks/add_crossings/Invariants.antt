use Rattle.std.proofs.Common.{◌≡◌, take}
use Rattle.path_walk.specs.Seen.{path_seen}
use Rattle.path_walk.specs.Pairs.{with_pairs, crossing_pairs}
use Rattle.path_walk.proofs.marks.add_crossings.Given as goal

abbrev pub invariant-loop-step : goal.invariant-loop-step
invariant-loop-step l = l.pairs.keys ≡ with_pairs l.fn.pairs.keys (crossing_pairs (path_seen (take l.step-index l.path)))
