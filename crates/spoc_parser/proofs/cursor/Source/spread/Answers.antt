use Rattle.std.proofs.Common.{List, Bor, sym, ap, ◌∙◌}
use Rattle.spoc_ast.specs.declared.word.Word.{Word}
use Rattle.spoc_parser.specs.Texts.{fits}
use Rattle.spoc_parser.specs.Seen.{toks_of}
use Rattle.spoc_parser.proofs.Spreading.{spread_yes, spread_apart, spread_unfit}
use Rattle.spoc_parser.proofs.cursor.Source.spread.Goals as goal

pub returns-then-not-are_joined-clause-gives : goal.returns-then-not-are_joined-clause-gives
returns-then-not-are_joined-clause-gives c =
    spread_apart c.args.self.file c.args.form c.in_ok-words.words (λ (b : Bor (List Word)). b.now) (toks_of c.args.tokens.now.rest.now) (toks_of c.word_run.new.tokens.rest.now) c.in_ok-words.ensures.gives (sym c.are_joined.ensures ∙ c.if-not-are_joined.true)

pub returns-then-not-fits-clause-gives : goal.returns-then-not-fits-clause-gives
returns-then-not-fits-clause-gives c =
    spread_unfit c.args.self.file c.args.form c.in_ok-words.words (λ (b : Bor (List Word)). b.now) (toks_of c.args.tokens.now.rest.now) (toks_of c.word_run.new.tokens.rest.now) c.in_ok-words.ensures.gives (sym c.are_joined.ensures ∙ c.if-not-are_joined.false)
    (ap (fits c.args.form) (sym c.in_ok-text.ensures.text) ∙ sym c.fits.ensures ∙ c.if-not-fits.true)

pub returns-clause-gives : goal.returns-clause-gives
returns-clause-gives c =
    spread_yes c.args.self.file c.args.form c.in_ok-words.words (λ (b : Bor (List Word)). b.now) (toks_of c.args.tokens.now.rest.now) (toks_of c.word_run.new.tokens.rest.now) c.in_ok-words.ensures.gives (sym c.are_joined.ensures ∙ c.if-not-are_joined.false)
    (ap (fits c.args.form) (sym c.in_ok-text.ensures.text) ∙ sym c.fits.ensures ∙ c.if-not-fits.false)
