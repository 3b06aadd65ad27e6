use Rattle.std.proofs.Common.{◌≡◌, List, Bor}
use Rattle.std.specs.Prelude.{codes}
use Rattle.std.proofs.lemmas.Result.{err_from_is_err_and}
use Rattle.spoc_ast.specs.declared.word.Word.{Word}
use Rattle.spoc_parser.specs.declared.forms.Form.TheVariants.{Note}
use Rattle.spoc_parser.specs.Readers.{read_sign, read_named, read_further, read_word, never_ends}
use Rattle.spoc_parser.specs.Reading.{read_proto}
use Rattle.spoc_parser.specs.Seen.{toks_of, IsWord}
use Rattle.spoc_parser.specs.SeenParts.{AreWords, IsProto}
use Rattle.spoc_parser.proofs.Gathering.{then_next, then_err}
use Rattle.spoc_parser.proofs.cursor.Source.protocol.Goals as goal

pub returns-in_err-sign-2-clause-gives : goal.returns-in_err-sign-2-clause-gives
returns-in_err-sign-2-clause-gives c _ =
    let p = err_from_is_err_and c.from_residual-in_err-sign-2.result c.from_residual-in_err-sign-2.ensures.1 in
    rw (p.1, p.2) (then_next (IsWord c.args.self.file) c.in_ok-name.name c.in_err-sign-2.field-0.0 (toks_of c.named.new.tokens.rest.now) (read_named (codes "protocol:") (toks_of c.args.tokens.now.rest.now)) _ c.in_ok-name.ensures.gives (λ _.
    then_next (λ a x. a ≡ x) c.in_ok-sign.field-0 c.in_err-sign-2.field-0.0 (toks_of c.sign.new.self.rest.now) (read_sign (codes "=") (toks_of c.named.new.tokens.rest.now)) _ c.in_ok-sign.ensures.gives (λ _.
    then_next (IsProto c.args.self.file) c.in_ok-simple.simple c.in_err-sign-2.field-0.0 (toks_of c.proto.new.tokens.rest.now) (read_proto (toks_of c.sign.new.self.rest.now)) _ c.in_ok-simple.ensures.gives (λ _.
    then_next (λ xs (ys : Bor (List Word)). AreWords c.args.self.file xs ys.now) c.in_ok-notes.notes c.in_err-sign-2.field-0.0 (toks_of c.notes.new.tokens.rest.now) (read_further never_ends (read_word Note) (toks_of c.proto.new.tokens.rest.now)) _ c.in_ok-notes.ensures.gives (λ _.
    then_err c.in_err-sign-2.field-0.0 (read_sign (codes ";") (toks_of c.notes.new.tokens.rest.now)) _ c.in_err-sign-2.ensures.gives)))))
