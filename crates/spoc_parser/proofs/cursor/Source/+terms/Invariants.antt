use Rattle.std.proofs.Common.{◌≤◌, ◌<◌, ◌+◌, ◌-◌, ◌*◌, ◌∷◌, [], length}
use Rattle.std.specs.List.{AllZip}
use Rattle.spoc_parser.specs.Readers.{read_commas, read_up_to, list_ends}
use Rattle.spoc_parser.specs.Reading.{read_term, read_inter, read_other, no_other}
use Rattle.spoc_parser.specs.Seen.{toks_of, SoFar, Behind, IsFurther, IsInter, IsTerm}
use Rattle.spoc_parser.proofs.cursor.Source.+terms.Given as goal

abbrev pub decreases-set : goal.decreases-set
decreases-set l = 16 * l.depth + 0

abbrev pub decreases-bracket : goal.decreases-bracket
decreases-bracket l = 16 * l.depth + 1

abbrev pub decreases-anys : goal.decreases-anys
decreases-anys l = 16 * l.depth + 1

abbrev pub decreases-term : goal.decreases-term
decreases-term l = 16 * l.depth + 2

abbrev pub decreases-signed : goal.decreases-signed
decreases-signed l = 16 * l.depth + 3

abbrev pub decreases-other : goal.decreases-other
decreases-other l = 16 * l.depth + 4

abbrev pub decreases-others : goal.decreases-others
decreases-others l = 16 * l.depth + 5

abbrev pub decreases-inter : goal.decreases-inter
decreases-inter l = 16 * l.depth + 6

abbrev pub decreases-more_inters : goal.decreases-more_inters
decreases-more_inters l = 16 * l.depth + 7

abbrev pub decreases-inters : goal.decreases-inters
decreases-inters l = 16 * l.depth + 8

abbrev pub invariant-others-loop-scope : goal.invariant-others-loop-scope
invariant-others-loop-scope l = record {
  shorter : length l.found.items + length l.tokens.rest.now ≤ length l.fn.tokens.rest.now;
  read : SoFar (AllZip (IsFurther (IsTerm l.self.file l.depth))) (read_up_to no_other (read_other (read_term l.scope.user l.depth l.scope.area))) l.found.items (length l.found.items) (toks_of l.tokens.rest.now) (toks_of l.fn.tokens.rest.now);
}

abbrev pub decreases-others-loop-scope : goal.decreases-others-loop-scope
decreases-others-loop-scope l = length l.tokens.rest.now

abbrev pub invariant-more_inters-loop-scope : goal.invariant-more_inters-loop-scope
invariant-more_inters-loop-scope l = record {
  some : 0 < length l.found.items;
  shorter : length l.found.items + length l.tokens.rest.now ≤ length l.fn.tokens.rest.now + 1;
  read : SoFar (λ xs ys. Behind (l.fn.first ∷ []) (AllZip (IsInter (IsTerm l.self.file l.depth)) xs) ys) (read_commas list_ends (read_inter (read_term l.scope.user l.depth l.scope.area))) l.found.items (length l.found.items - 1) (toks_of l.tokens.rest.now) (toks_of l.fn.tokens.rest.now);
}

abbrev pub decreases-more_inters-loop-scope : goal.decreases-more_inters-loop-scope
decreases-more_inters-loop-scope l = length l.tokens.rest.now
