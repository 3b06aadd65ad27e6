use Rattle.std.proofs.Common.{◌≤◌, ◌+◌, ◌-◌, length}
use Rattle.std.specs.List.{AllZip}
use Rattle.spoc_parser.specs.Readers.{read_commas, read_word, never_ends}
use Rattle.spoc_parser.specs.Seen.{toks_of, SoFar, Behind, IsWord}
use Rattle.spoc_parser.proofs.cursor.Source.more_words.Given as goal

abbrev pub invariant-loop-form : goal.invariant-loop-form
invariant-loop-form l = record {
  some : length l.fn.before.items ≤ length l.found.items;
  shorter : length l.found.items + length l.tokens.rest.now ≤ length l.fn.tokens.rest.now + length l.fn.before.items;
  read : SoFar (λ xs ys. Behind l.fn.before.items (AllZip (IsWord l.self.file) xs) ys) (read_commas never_ends (read_word l.form)) l.found.items (length l.found.items - length l.fn.before.items) (toks_of l.tokens.rest.now) (toks_of l.fn.tokens.rest.now);
}

abbrev pub decreases-loop-form : goal.decreases-loop-form
decreases-loop-form l = length l.tokens.rest.now
