use Rattle.std.proofs.Common.{List, length, subst, Bor, arith}
use Rattle.spoc_ast.specs.declared.word.Word.{Word}
use Rattle.spoc_parser.specs.Seen.{toks_of, Gives}
use Rattle.spoc_parser.specs.SeenParts.{AreWords}
use Rattle.spoc_parser.proofs.Spreading.{run_is}
use Rattle.spoc_parser.proofs.cursor.Source.word_run.Goals as goal

pub returns-clause-gives : goal.returns-clause-gives
returns-clause-gives c =
    let toks = toks_of c.args.tokens.now.rest.now in
    subst (λ o. Gives (λ xs (ys : Bor (List Word)). AreWords c.args.self.file xs ys.now) c.until.result (toks_of c.until.new.tokens.rest.now) o) (run_is toks (length toks) (omega arith)) c.until.ensures.gives
