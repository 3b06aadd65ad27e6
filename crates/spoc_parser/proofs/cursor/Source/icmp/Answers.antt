use Rattle.std.proofs.Common.{◌≡◌, List, Ok, Bor, refl}
use Rattle.std.specs.Prelude.{codes}
use Rattle.std.proofs.lemmas.Result.{err_from_is_err_and}
use Rattle.spoc_ast.specs.declared.word.Word.{Word}
use Rattle.spoc_ast.specs.declared.decl.Simple.TheVariants as Simples
use Rattle.spoc_parser.specs.declared.forms.Form.TheVariants.{Icmp}
use Rattle.spoc_parser.specs.Readers.{read_key, read_spread_or_none}
use Rattle.spoc_parser.specs.Seen.{toks_of}
use Rattle.spoc_parser.specs.SeenParts.{AreWords, IsProto}
use Rattle.spoc_parser.proofs.Gathering.{then_ok, then_next, then_err}
use Rattle.spoc_parser.proofs.cursor.Source.icmp.Goals as goal

pub returns-in_err-kind-clause-gives : goal.returns-in_err-kind-clause-gives
returns-in_err-kind-clause-gives c =
    let p = err_from_is_err_and c.from_residual-in_err-kind.result c.from_residual-in_err-kind.ensures.1 in
    rw (p.1, p.2) (then_next (λ a x. a ≡ x) c.in_ok-key.field-0 c.in_err-kind.field-0.0 (toks_of c.key.new.self.rest.now) (read_key (codes "icmp") (toks_of c.args.tokens.now.rest.now)) _ c.in_ok-key.ensures.gives (λ _. then_err c.in_err-kind.field-0.0 (read_spread_or_none Icmp (toks_of c.key.new.self.rest.now)) _ c.in_err-kind.ensures.gives))

pub returns-clause-gives : goal.returns-clause-gives
returns-clause-gives c =
    then_ok (λ a x. a ≡ x) (IsProto c.args.self.file) c.in_ok-key.field-0 (Ok (Simples.Icmp c.in_ok-kind.kind)) (toks_of c.key.new.self.rest.now) (toks_of c.spread_or_none.new.tokens.rest.now) (read_key (codes "icmp") (toks_of c.args.tokens.now.rest.now)) _ c.in_ok-key.ensures.gives λ _ _.
    then_ok (λ xs (ys : Bor (List Word)). AreWords c.args.self.file xs ys.now) (IsProto c.args.self.file) c.in_ok-kind.kind (Ok (Simples.Icmp c.in_ok-kind.kind)) (toks_of c.spread_or_none.new.tokens.rest.now) (toks_of c.spread_or_none.new.tokens.rest.now) (read_spread_or_none Icmp (toks_of c.key.new.self.rest.now)) _ c.in_ok-kind.ensures.gives λ _ held. (held, refl)
