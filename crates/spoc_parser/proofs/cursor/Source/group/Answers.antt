use Rattle.std.proofs.Common.{◌≡◌, false}
use Rattle.std.specs.Prelude.{codes}
use Rattle.std.proofs.lemmas.Result.{err_from_is_err_and}
use Rattle.spoc_parser.specs.Readers.{at_sign, read_sign, read_named, read_unless}
use Rattle.spoc_parser.specs.Reading.{read_desc_part, read_set_in}
use Rattle.spoc_parser.specs.Seen.{toks_of, IsWord, IsPerhaps, IsSetIn}
use Rattle.spoc_parser.proofs.Gathering.{then_next, then_err}
use Rattle.spoc_parser.proofs.cursor.Source.group.Goals as goal

pub returns-in_err-sign-2-clause-gives : goal.returns-in_err-sign-2-clause-gives
returns-in_err-sign-2-clause-gives c =
    let p = err_from_is_err_and c.from_residual-in_err-sign-2.result c.from_residual-in_err-sign-2.ensures.1 in
    rw (p.1, p.2) (then_next (IsWord c.args.self.file) c.in_ok-name.name c.in_err-sign-2.field-0.0 (toks_of c.named.new.tokens.rest.now) (read_named (codes "group:") (toks_of c.args.tokens.now.rest.now)) _ c.in_ok-name.ensures.gives (λ _.
    then_next (λ a x. a ≡ x) c.in_ok-sign.field-0 c.in_err-sign-2.field-0.0 (toks_of c.sign.new.self.rest.now) (read_sign (codes "=") (toks_of c.named.new.tokens.rest.now)) _ c.in_ok-sign.ensures.gives (λ _.
    then_next (IsPerhaps (IsWord c.args.self.file)) c.in_ok-desc.desc c.in_err-sign-2.field-0.0 (toks_of c.description.new.tokens.rest.now) (read_desc_part (toks_of c.sign.new.self.rest.now)) _ c.in_ok-desc.ensures.gives (λ _.
    then_next (IsPerhaps (IsSetIn c.args.self.file c.args.depth)) c.in_ok-objects.objects c.in_err-sign-2.field-0.0 (toks_of c.group_objects.new.tokens.rest.now) (read_unless (at_sign (codes ";")) (read_set_in false c.args.depth false) (toks_of c.description.new.tokens.rest.now)) _ c.in_ok-objects.ensures.gives (λ _.
    then_err c.in_err-sign-2.field-0.0 (read_sign (codes ";") (toks_of c.group_objects.new.tokens.rest.now)) _ c.in_err-sign-2.ensures.gives)))))
