use Rattle.std.proofs.Common.{◌≡◌, false, refl, sym, ◌∙◌}
use Rattle.std.specs.Prelude.{codes}
use Rattle.std.proofs.lemmas.Result.{err_from_is_err_and}
use Rattle.spoc_parser.specs.Readers.{at_key, at_kind}
use Rattle.spoc_parser.specs.Reading.{read_idle}
use Rattle.spoc_parser.specs.Seen.{toks_of}
use Rattle.spoc_parser.proofs.Gathering.{gives_err}
use Rattle.spoc_parser.proofs.parts.NetPartPart.part.Goals as goal

pub returns-in_err-idle-clause-gives : goal.returns-in_err-idle-clause-gives
returns-in_err-idle-clause-gives c =
    let toks = toks_of c.args.tokens.now.rest.now in
    let no_ip : at_key (codes "ip") toks ≡ false = sym c.at_key.ensures ∙ c.if-at_key.false in
    let no_host : at_kind (codes "host:") toks ≡ false = sym c.at_kind.ensures ∙ c.if-at_kind.false in
    let no_nat : at_kind (codes "nat:") toks ≡ false = sym c.at_kind-2.ensures ∙ c.if-at_kind-2.false in
    let p = err_from_is_err_and c.from_residual-in_err-idle.result c.from_residual-in_err-idle.ensures.1 in
    rw (p.1, p.2) (gives_err c.in_err-idle.field-0.0 (read_idle toks) _ c.in_err-idle.ensures.gives (λ none. rw (no_ip, no_host, no_nat, none) refl))
