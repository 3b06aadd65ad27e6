use Rattle.std.proofs.Common.{◌≤◌, ◌+◌, length}
use Rattle.std.specs.List.{AllZip}
use Rattle.spoc_parser.specs.Ends.{is_at}
use Rattle.spoc_parser.specs.Readers.{read_up_to}
use Rattle.spoc_parser.specs.Seen.{toks_of, SoFar}
use Rattle.spoc_parser.proofs.cursor.Source.until.Given as goal

abbrev pub invariant-loop-end : goal.invariant-loop-end
invariant-loop-end g l = record {
  shorter : length l.found.items + length l.tokens.rest.now ≤ length l.fn.tokens.rest.now;
  read : SoFar (AllZip (g.P.Part.is l.self.file)) (read_up_to (is_at l.end) g.P.Part.reads) l.found.items (length l.found.items) (toks_of l.tokens.rest.now) (toks_of l.fn.tokens.rest.now);
}

abbrev pub decreases-loop-end : goal.decreases-loop-end
decreases-loop-end g l = length l.tokens.rest.now
