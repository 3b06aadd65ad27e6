use Rattle.std.specs.Prelude.{Some, option_map}
use Rattle.std.proofs.Common.{ap, sym, ◌∙◌}
use Rattle.std.proofs.lemmas.Option.{slice_get-map, slice_get-get_or}
use Rattle.spoc_base.specs.declared.fault.Fault.{Fault}
use Rattle.spoc_lexer.specs.Tokens.{Tok}
use Rattle.spoc_lexer.specs.Seen.{seen}
use Rattle.token_checks.specs.Places.{toks_of}
use Rattle.token_checks.specs.Nesting.{is_too_deep_at}
use Rattle.policy_files.specs.Fault.{deep_fault}
use Rattle.policy_files.proofs.First.{token_found, no_token}
use Rattle.policy_files.proofs.file.deep.Goals as goal

pub returns-in_err-place : goal.returns-in_err-place
returns-in_err-place c =
    c.from_residual.ensures ∙ sym (ap (option_map {T = Tok} {U = Fault} (λ tok. deep_fault (c.args.file, tok))) (no_token (is_too_deep_at (toks_of c.args.tokens.now)) (toks_of c.args.tokens.now) c.in_err-place.ensures.none))

pub returns : goal.returns
returns c =
    let tokens = c.args.tokens.now in
    let toks = toks_of tokens in
    let place = c.in_ok-place.place in
    ap Some c.deep_at.ensures ∙ sym (ap (option_map {T = Tok} {U = Fault} (λ tok. deep_fault (c.args.file, tok)))
    (token_found (is_too_deep_at toks) toks place _ c.in_ok-place.ensures.found (slice_get-map seen tokens place ∙ ap (option_map seen) (slice_get-get_or tokens place _ c.in_ok-place.ensures.within))))
