use Rattle.std.proofs.Common.{◌≡◌, map, drop, ◌++◌}
use Rattle.closed_pairs.specs.Seen.{nets_seen}
use Rattle.closed_pairs.specs.Reaching.{others_from}
use Rattle.closed_pairs.proofs.inside.push_pairs.Given as goal

abbrev pub invariant-loop-dst : goal.invariant-loop-dst
invariant-loop-dst l =
    map nets_seen l.pairs.items ++ others_from (nets_seen l.without) (map (λ n. n.0) (drop l.dst-index l.dsts)) l.src.0
    ≡ map nets_seen l.initial.pairs.items ++ others_from (nets_seen l.without) (map (λ n. n.0) l.dsts) l.src.0
