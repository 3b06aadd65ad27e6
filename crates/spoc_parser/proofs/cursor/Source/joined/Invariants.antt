use Rattle.std.proofs.Common.{take, ◌≡◌}
use Rattle.spoc_parser.specs.Texts.{joined}
use Rattle.spoc_parser.specs.SeenParts.{written}
use Rattle.spoc_parser.proofs.cursor.Source.joined.Given as goal

abbrev pub invariant-loop-word : goal.invariant-loop-word
invariant-loop-word l = l.text.items ≡ joined (take l.word-index (written l.words))
