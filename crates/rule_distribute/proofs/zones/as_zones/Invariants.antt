use Rattle.std.proofs.Common.{◌≡◌, map, take}
use Rattle.rule_distribute.specs.Shown.{zones_seen}
use Rattle.rule_distribute.proofs.zones.as_zones.Given as goal

abbrev pub invariant-loop-pair : goal.invariant-loop-pair
invariant-loop-pair l = map zones_seen l.zones.items ≡ take l.pair-index l.pairs
