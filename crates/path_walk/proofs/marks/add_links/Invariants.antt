use Rattle.std.proofs.Common.{◌≡◌, take}
use Rattle.path_walk.specs.Seen.{path_seen}
use Rattle.path_walk.specs.Pairs.{with_pairs, link_pairs}
use Rattle.path_walk.proofs.marks.add_links.Given as goal

abbrev pub invariant-loop-k : goal.invariant-loop-k
invariant-loop-k l = l.pairs.keys ≡ with_pairs l.fn.pairs.keys (link_pairs (path_seen (take l.k l.fn.path)))
