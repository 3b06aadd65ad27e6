use Rattle.std.proofs.Common.{◌≡◌}
use Rattle.std.specs.Prelude.{codes}
use Rattle.std.proofs.lemmas.Result.{err_from_is_err_and}
use Rattle.spoc_parser.specs.Readers.{read_sign, read_named, read_listed, read_port, list_ends}
use Rattle.spoc_parser.specs.Reading.{read_desc_part}
use Rattle.spoc_parser.specs.Seen.{toks_of, IsWord, IsPerhaps}
use Rattle.spoc_parser.proofs.Gathering.{then_next, then_err}
use Rattle.spoc_parser.proofs.cursor.Source.restriction.Goals as goal

pub returns-in_err-ports-clause-gives : goal.returns-in_err-ports-clause-gives
returns-in_err-ports-clause-gives c _ =
    let p = err_from_is_err_and c.from_residual-in_err-ports.result c.from_residual-in_err-ports.ensures.1 in
    rw (p.1, p.2) (then_next (IsWord c.args.self.file) c.in_ok-name.name c.in_err-ports.field-0.0 (toks_of c.named.new.tokens.rest.now) (read_named (codes "pathrestriction:") (toks_of c.args.tokens.now.rest.now)) _ c.in_ok-name.ensures.gives (λ _.
    then_next (λ a x. a ≡ x) c.in_ok-sign.field-0 c.in_err-ports.field-0.0 (toks_of c.sign.new.self.rest.now) (read_sign (codes "=") (toks_of c.named.new.tokens.rest.now)) _ c.in_ok-sign.ensures.gives (λ _.
    then_next (IsPerhaps (IsWord c.args.self.file)) c.in_ok-desc.desc c.in_err-ports.field-0.0 (toks_of c.description.new.tokens.rest.now) (read_desc_part (toks_of c.sign.new.self.rest.now)) _ c.in_ok-desc.ensures.gives (λ _.
    then_err c.in_err-ports.field-0.0 (read_listed list_ends read_port (toks_of c.description.new.tokens.rest.now)) _ c.in_err-ports.ensures.gives))))
