use Rattle.std.proofs.Common.{true, false, List, Ok, Bor, refl}
use Rattle.std.specs.Prelude.{codes}
use Rattle.std.specs.List.{AllZip}
use Rattle.std.proofs.lemmas.Result.{err_from_is_err_and}
use Rattle.spoc_ast.specs.declared.decl.Idle.{Idle}
use Rattle.spoc_ast.specs.declared.decl.RuleTree.{RuleTree}
use Rattle.spoc_ast.specs.declared.decl.Decl.TheVariants as Decls
use Rattle.spoc_parser.specs.Readers.{read_named, read_until}
use Rattle.spoc_parser.specs.Reading.{read_opening, read_set_in, read_idle, no_idle, read_side, read_rules}
use Rattle.spoc_parser.specs.Seen.{toks_of, IsWord, IsPerhaps, IsSetIn}
use Rattle.spoc_parser.specs.SeenParts.{IsIdle, IsRule, IsDecl}
use Rattle.spoc_parser.proofs.Gathering.{then_ok, then_next, then_err}
use Rattle.spoc_parser.proofs.cursor.Source.service.Goals as goal

pub returns-in_err-user-clause-gives : goal.returns-in_err-user-clause-gives
returns-in_err-user-clause-gives c =
    let p = err_from_is_err_and c.from_residual-in_err-user.result c.from_residual-in_err-user.ensures.1 in
    rw (p.1, p.2) (then_next (IsWord c.args.self.file) c.in_ok-name.name c.in_err-user.field-0.0 (toks_of c.named.new.tokens.rest.now) (read_named (codes "service:") (toks_of c.args.tokens.now.rest.now)) _ c.in_ok-name.ensures.gives (λ _.
    then_next (IsPerhaps (IsWord c.args.self.file)) c.in_ok-desc.desc c.in_err-user.field-0.0 (toks_of c.opening.new.tokens.rest.now) (read_opening (toks_of c.named.new.tokens.rest.now)) _ c.in_ok-desc.ensures.gives (λ _.
    then_next (λ xs (ys : Bor (List Idle)). AllZip (IsIdle c.args.self.file) xs ys.now) c.in_ok-idle.idle c.in_err-user.field-0.0 (toks_of c.until.new.tokens.rest.now) (read_until no_idle read_idle (toks_of c.opening.new.tokens.rest.now)) _ c.in_ok-idle.ensures.gives (λ _.
    then_err c.in_err-user.field-0.0 (read_side (codes "user") (read_set_in false c.args.depth false) (toks_of c.until.new.tokens.rest.now)) _ c.in_err-user.ensures.gives))))

pub returns-in_err-rules-clause-gives : goal.returns-in_err-rules-clause-gives
returns-in_err-rules-clause-gives c =
    let p = err_from_is_err_and c.from_residual-in_err-rules.result c.from_residual-in_err-rules.ensures.1 in
    rw (p.1, p.2) (then_next (IsWord c.args.self.file) c.in_ok-name.name c.in_err-rules.field-0.0 (toks_of c.named.new.tokens.rest.now) (read_named (codes "service:") (toks_of c.args.tokens.now.rest.now)) _ c.in_ok-name.ensures.gives (λ _.
    then_next (IsPerhaps (IsWord c.args.self.file)) c.in_ok-desc.desc c.in_err-rules.field-0.0 (toks_of c.opening.new.tokens.rest.now) (read_opening (toks_of c.named.new.tokens.rest.now)) _ c.in_ok-desc.ensures.gives (λ _.
    then_next (λ xs (ys : Bor (List Idle)). AllZip (IsIdle c.args.self.file) xs ys.now) c.in_ok-idle.idle c.in_err-rules.field-0.0 (toks_of c.until.new.tokens.rest.now) (read_until no_idle read_idle (toks_of c.opening.new.tokens.rest.now)) _ c.in_ok-idle.ensures.gives (λ _.
    then_next (IsSetIn c.args.self.file c.args.depth) c.in_ok-user.user c.in_err-rules.field-0.0 (toks_of c.side.new.tokens.rest.now) (read_side (codes "user") (read_set_in false c.args.depth false) (toks_of c.until.new.tokens.rest.now)) _ c.in_ok-user.ensures.gives (λ _.
    then_err c.in_err-rules.field-0.0 (read_rules (read_set_in true c.args.depth false) (toks_of c.side.new.tokens.rest.now)) _ c.in_err-rules.ensures.gives)))))

pub returns-clause-gives : goal.returns-clause-gives
returns-clause-gives c =
    then_ok (IsWord c.args.self.file) (IsDecl c.args.self.file (IsSetIn c.args.self.file c.args.depth)) c.in_ok-name.name (Ok (Decls.Service c.in_ok-name.name c.in_ok-desc.desc c.in_ok-idle.idle c.in_ok-user.user c.in_ok-rules.rules)) (toks_of c.named.new.tokens.rest.now) (toks_of c.rules.new.tokens.rest.now) (read_named (codes "service:") (toks_of c.args.tokens.now.rest.now)) _ c.in_ok-name.ensures.gives λ _ h0.
    then_ok (IsPerhaps (IsWord c.args.self.file)) (IsDecl c.args.self.file (IsSetIn c.args.self.file c.args.depth)) c.in_ok-desc.desc (Ok (Decls.Service c.in_ok-name.name c.in_ok-desc.desc c.in_ok-idle.idle c.in_ok-user.user c.in_ok-rules.rules)) (toks_of c.opening.new.tokens.rest.now) (toks_of c.rules.new.tokens.rest.now) (read_opening (toks_of c.named.new.tokens.rest.now)) _ c.in_ok-desc.ensures.gives λ _ h1.
    then_ok (λ xs (ys : Bor (List Idle)). AllZip (IsIdle c.args.self.file) xs ys.now) (IsDecl c.args.self.file (IsSetIn c.args.self.file c.args.depth)) c.in_ok-idle.idle (Ok (Decls.Service c.in_ok-name.name c.in_ok-desc.desc c.in_ok-idle.idle c.in_ok-user.user c.in_ok-rules.rules)) (toks_of c.until.new.tokens.rest.now) (toks_of c.rules.new.tokens.rest.now) (read_until no_idle read_idle (toks_of c.opening.new.tokens.rest.now)) _ c.in_ok-idle.ensures.gives λ _ h2.
    then_ok (IsSetIn c.args.self.file c.args.depth) (IsDecl c.args.self.file (IsSetIn c.args.self.file c.args.depth)) c.in_ok-user.user (Ok (Decls.Service c.in_ok-name.name c.in_ok-desc.desc c.in_ok-idle.idle c.in_ok-user.user c.in_ok-rules.rules)) (toks_of c.side.new.tokens.rest.now) (toks_of c.rules.new.tokens.rest.now) (read_side (codes "user") (read_set_in false c.args.depth false) (toks_of c.until.new.tokens.rest.now)) _ c.in_ok-user.ensures.gives λ _ h3.
    then_ok (λ xs (ys : Bor (List RuleTree)). AllZip (IsRule c.args.self.file (IsSetIn c.args.self.file c.args.depth)) xs ys.now) (IsDecl c.args.self.file (IsSetIn c.args.self.file c.args.depth)) c.in_ok-rules.rules (Ok (Decls.Service c.in_ok-name.name c.in_ok-desc.desc c.in_ok-idle.idle c.in_ok-user.user c.in_ok-rules.rules)) (toks_of c.rules.new.tokens.rest.now) (toks_of c.rules.new.tokens.rest.now) (read_rules (read_set_in true c.args.depth false) (toks_of c.side.new.tokens.rest.now)) _ c.in_ok-rules.ensures.gives λ _ h4.
    ((h0, h1, h2, h3, h4), refl)
