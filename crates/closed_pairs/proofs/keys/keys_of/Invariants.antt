use Rattle.std.proofs.Common.{◌≡◌, map, take}
use Rattle.closed_pairs.specs.Seen.{pair_seen}
use Rattle.closed_pairs.specs.Flags.{key_of}
use Rattle.closed_pairs.proofs.keys.keys_of.Given as goal

abbrev pub invariant-loop-pair : goal.invariant-loop-pair
invariant-loop-pair l = l.keys.items ≡ map (λ e. key_of (pair_seen e)) (take l.pair-index l.pairs)
