use Rattle.std.proofs.Common.{◌≡◌, map, take}
use Rattle.rule_distribute.specs.Nested.{zones_of}
use Rattle.rule_distribute.proofs.zones.zones_between.Given as goal

abbrev pub invariant-loop-pair : goal.invariant-loop-pair
invariant-loop-pair l = l.pairs.items ≡ map (zones_of l.graph.zones) (take l.pair-index l.nets)
