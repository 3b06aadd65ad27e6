use Rattle.std.proofs.Common.{◌≡◌, ◌++◌, map, drop}
use Rattle.closed_pairs.specs.Seen.{nets_seen}
use Rattle.rule_distribute.specs.Nested.{parted}
use Rattle.rule_distribute.proofs.concerned.push_parted.Given as goal

abbrev pub invariant-loop-src : goal.invariant-loop-src
invariant-loop-src l = l.pairs.items ++ parted l.graph.zones (map nets_seen (drop l.src-index l.inside)) ≡ l.initial.pairs.items ++ parted l.graph.zones (map nets_seen l.inside)
