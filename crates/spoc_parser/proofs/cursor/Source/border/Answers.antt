use Rattle.std.proofs.Common.{◌≡◌, refl}
use Rattle.std.specs.Prelude.{codes}
use Rattle.std.proofs.lemmas.Result.{err_from_is_err_and}
use Rattle.spoc_parser.specs.Readers.{read_key, read_sign, read_listed, read_port, never_ends}
use Rattle.spoc_parser.specs.Seen.{toks_of}
use Rattle.spoc_parser.proofs.Gathering.{given, gives_err}
use Rattle.spoc_parser.proofs.cursor.Source.border.Goals as goal

pub returns-in_err-ports-clause-gives : goal.returns-in_err-ports-clause-gives
returns-in_err-ports-clause-gives c =
    let a = given (λ x y. x ≡ y) c.in_ok-key.field-0 (toks_of c.key.new.self.rest.now) (read_key (codes "border") (toks_of c.args.tokens.now.rest.now)) c.in_ok-key.ensures.gives in
    let b = given (λ x y. x ≡ y) c.in_ok-sign.field-0 (toks_of c.sign.new.self.rest.now) (read_sign (codes "=") (toks_of c.key.new.self.rest.now)) c.in_ok-sign.ensures.gives in
    let p = err_from_is_err_and c.from_residual-in_err-ports.result c.from_residual-in_err-ports.ensures.1 in
    rw (p.1, p.2) (gives_err c.in_err-ports.field-0.0 (read_listed never_ends read_port (toks_of c.sign.new.self.rest.now)) _ c.in_err-ports.ensures.gives (λ none. rw (a.2, b.2, none) refl))
