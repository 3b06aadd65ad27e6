use Rattle.std.proofs.Common.{◌≤◌, ◌+◌, true, false, length}
use Rattle.std.specs.Prelude.{codes}
use Rattle.std.specs.List.{AllZip}
use Rattle.spoc_parser.specs.Readers.{at_sign, read_up_to}
use Rattle.spoc_parser.specs.Reading.{read_rule, read_set_in}
use Rattle.spoc_parser.specs.Seen.{toks_of, SoFar, IsSetIn}
use Rattle.spoc_parser.specs.SeenParts.{IsRule}
use Rattle.spoc_parser.proofs.cursor.Source.rule_run.Given as goal

abbrev pub invariant-loop-self : goal.invariant-loop-self
invariant-loop-self l = record {
  shorter : length l.found.items + length l.tokens.rest.now ≤ length l.fn.tokens.rest.now;
  read : SoFar (AllZip (IsRule l.self.file (IsSetIn l.self.file l.depth))) (read_up_to (at_sign (codes "}")) (read_rule (read_set_in true l.depth false))) l.found.items (length l.found.items) (toks_of l.tokens.rest.now) (toks_of l.fn.tokens.rest.now);
}

abbrev pub decreases-loop-self : goal.decreases-loop-self
decreases-loop-self l = length l.tokens.rest.now
