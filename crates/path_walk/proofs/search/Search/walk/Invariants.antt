use Rattle.std.proofs.Common.{◌≡◌, map, take}
use Rattle.path_walk.specs.Seen.{crossing_seen, path_seen}
use Rattle.path_walk.proofs.search.Search.walk.Given as goal

abbrev pub invariant-loop-step : goal.invariant-loop-step
invariant-loop-step l = map crossing_seen l.walk.items ≡ path_seen (take l.step-index l.step-items)
