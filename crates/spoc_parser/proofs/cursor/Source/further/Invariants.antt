use Rattle.std.proofs.Common.{◌≤◌, ◌<◌, ◌+◌, ◌-◌, ◌∷◌, [], length}
use Rattle.std.specs.List.{AllZip}
use Rattle.spoc_parser.specs.Ends.{closes}
use Rattle.spoc_parser.specs.Readers.{read_commas}
use Rattle.spoc_parser.specs.Seen.{toks_of, SoFar, Behind}
use Rattle.spoc_parser.proofs.cursor.Source.further.Given as goal

abbrev pub invariant-loop-tokens : goal.invariant-loop-tokens
invariant-loop-tokens g l = record {
  some : 0 < length l.found.items;
  shorter : length l.found.items + length l.tokens.rest.now ≤ length l.fn.tokens.rest.now + 1;
  read : SoFar (λ xs ys. Behind (l.fn.first ∷ []) (AllZip (g.P.Part.is l.self.file) xs) ys) (read_commas (closes l.may_close) g.P.Part.reads) l.found.items (length l.found.items - 1) (toks_of l.tokens.rest.now) (toks_of l.fn.tokens.rest.now);
}

abbrev pub decreases-loop-tokens : goal.decreases-loop-tokens
decreases-loop-tokens g l = length l.tokens.rest.now
