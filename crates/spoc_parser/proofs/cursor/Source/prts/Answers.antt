use Rattle.std.proofs.Common.{◌≡◌, List, Ok, Bor, refl}
use Rattle.std.specs.Prelude.{codes}
use Rattle.std.specs.List.{AllZip}
use Rattle.std.proofs.lemmas.Result.{err_from_is_err_and}
use Rattle.spoc_ast.specs.declared.decl.Prt.{Prt}
use Rattle.spoc_parser.specs.Readers.{read_sign, read_listed, list_ends}
use Rattle.spoc_parser.specs.Reading.{read_proto_item}
use Rattle.spoc_parser.specs.Seen.{toks_of}
use Rattle.spoc_parser.specs.SeenParts.{IsProtoItem}
use Rattle.spoc_parser.proofs.Gathering.{then_ok, then_next, then_err}
use Rattle.spoc_parser.proofs.cursor.Source.prts.Goals as goal

pub returns-in_err-prts-clause-gives : goal.returns-in_err-prts-clause-gives
returns-in_err-prts-clause-gives c =
    let p = err_from_is_err_and c.from_residual-in_err-prts.result c.from_residual-in_err-prts.ensures.1 in
    rw (p.1, p.2) (then_next (λ a x. a ≡ x) c.in_ok-sign.field-0 c.in_err-prts.field-0.0 (toks_of c.sign.new.self.rest.now) (read_sign (codes "=") (toks_of c.args.tokens.now.rest.now)) _ c.in_ok-sign.ensures.gives (λ _. then_err c.in_err-prts.field-0.0 (read_listed list_ends read_proto_item (toks_of c.sign.new.self.rest.now)) _ c.in_err-prts.ensures.gives))

pub returns-in_err-sign-2-clause-gives : goal.returns-in_err-sign-2-clause-gives
returns-in_err-sign-2-clause-gives c =
    let p = err_from_is_err_and c.from_residual-in_err-sign-2.result c.from_residual-in_err-sign-2.ensures.1 in
    rw (p.1, p.2) (then_next (λ a x. a ≡ x) c.in_ok-sign.field-0 c.in_err-sign-2.field-0.0 (toks_of c.sign.new.self.rest.now) (read_sign (codes "=") (toks_of c.args.tokens.now.rest.now)) _ c.in_ok-sign.ensures.gives (λ _.
    then_next (λ xs (ys : Bor (List Prt)). AllZip (IsProtoItem c.args.self.file) xs ys.now) c.in_ok-prts.prts c.in_err-sign-2.field-0.0 (toks_of c.proto_list.new.tokens.rest.now) (read_listed list_ends read_proto_item (toks_of c.sign.new.self.rest.now)) _ c.in_ok-prts.ensures.gives (λ _.
    then_err c.in_err-sign-2.field-0.0 (read_sign (codes ";") (toks_of c.proto_list.new.tokens.rest.now)) _ c.in_err-sign-2.ensures.gives)))

pub returns-clause-gives : goal.returns-clause-gives
returns-clause-gives c =
    then_ok (λ a x. a ≡ x) (λ xs (ys : Bor (List Prt)). AllZip (IsProtoItem c.args.self.file) xs ys.now) c.in_ok-sign.field-0 (Ok c.in_ok-prts.prts) (toks_of c.sign.new.self.rest.now) (toks_of c.sign-2.new.self.rest.now) (read_sign (codes "=") (toks_of c.args.tokens.now.rest.now)) _ c.in_ok-sign.ensures.gives λ _ _.
    then_ok (λ xs (ys : Bor (List Prt)). AllZip (IsProtoItem c.args.self.file) xs ys.now) (λ xs (ys : Bor (List Prt)). AllZip (IsProtoItem c.args.self.file) xs ys.now) c.in_ok-prts.prts (Ok c.in_ok-prts.prts) (toks_of c.proto_list.new.tokens.rest.now) (toks_of c.sign-2.new.self.rest.now) (read_listed list_ends read_proto_item (toks_of c.sign.new.self.rest.now)) _ c.in_ok-prts.ensures.gives λ _ held.
    then_ok (λ a x. a ≡ x) (λ xs (ys : Bor (List Prt)). AllZip (IsProtoItem c.args.self.file) xs ys.now) c.in_ok-sign-2.field-0 (Ok c.in_ok-prts.prts) (toks_of c.sign-2.new.self.rest.now) (toks_of c.sign-2.new.self.rest.now) (read_sign (codes ";") (toks_of c.proto_list.new.tokens.rest.now)) _ c.in_ok-sign-2.ensures.gives λ _ _. (held, refl)
