use Rattle.std.proofs.Common.{◌≤◌, ◌+◌, length}
use Rattle.std.specs.List.{AllZip}
use Rattle.spoc_parser.specs.Reading.{read_decl_in}
use Rattle.spoc_parser.specs.Files.{read_run}
use Rattle.spoc_parser.specs.Seen.{toks_of, SoFar, IsSetIn}
use Rattle.spoc_parser.specs.SeenParts.{IsDecl}
use Rattle.spoc_parser.proofs.cursor.Source.run.Given as goal

abbrev pub invariant-loop-left : goal.invariant-loop-left
invariant-loop-left l = record {
  shorter : length l.found.items + length l.tokens.rest.now ≤ length l.fn.tokens.rest.now;
  read : SoFar (AllZip (IsDecl l.self.file (IsSetIn l.self.file l.depth))) (read_run (read_decl_in l.depth)) l.found.items (length l.found.items) (toks_of l.tokens.rest.now) (toks_of l.fn.tokens.rest.now);
}

abbrev pub decreases-loop-left : goal.decreases-loop-left
decreases-loop-left l = length l.tokens.rest.now
