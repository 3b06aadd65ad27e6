use Rattle.std.proofs.Common.{length, drop, ◌-◌, ◌≡◌, ◌<◌}
use Rattle.spoc_parser.specs.Texts.{are_joined}
use Rattle.spoc_parser.specs.SeenParts.{written}
use Rattle.spoc_parser.proofs.spread.are_joined.Given as goal

abbrev pub invariant-loop-at : goal.invariant-loop-at
invariant-loop-at l = record {
  some : 0 < l.at;
  read : are_joined (drop (l.at - 1) (written l.words)) ≡ are_joined (written l.words);
}

abbrev pub decreases-loop-at : goal.decreases-loop-at
decreases-loop-at l = length l.words - l.at
