use Rattle.std.proofs.Common.{◌≡◌, map, flat_map, drop, ◌++◌}
use Rattle.closed_pairs.specs.Seen.{nets_seen}
use Rattle.closed_pairs.specs.Reaching.{others_from}
use Rattle.closed_pairs.proofs.inside.push_rows.Given as goal

abbrev pub invariant-loop-src : goal.invariant-loop-src
invariant-loop-src l =
    map nets_seen l.pairs.items ++ flat_map (others_from (nets_seen l.without) (map (λ n. n.0) l.dsts)) (map (λ n. n.0) (drop l.src-index l.srcs))
    ≡ map nets_seen l.initial.pairs.items ++ flat_map (others_from (nets_seen l.without) (map (λ n. n.0) l.dsts)) (map (λ n. n.0) l.srcs)
