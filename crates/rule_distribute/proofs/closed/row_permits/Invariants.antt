use Rattle.std.proofs.Common.{◌≡◌, map, take}
use Rattle.closed_pairs.specs.Seen.{pair_seen}
use Rattle.rule_distribute.specs.Placed.{numbers_at}
use Rattle.rule_distribute.specs.Shown.{pairs_seen}
use Rattle.rule_distribute.proofs.closed.row_permits.Given as goal

abbrev pub invariant-loop-w : goal.invariant-loop-w
invariant-loop-w l = map pair_seen l.pairs.items ≡ map (numbers_at (pairs_seen l.joined) l.told) (take l.w-index l.row)
