use Rattle.std.proofs.Common.{◌∙◌, ap, sym, [], ◌∷◌, option_and_then, option_map}
use Rattle.std.specs.List.{slice_get}
use Rattle.spoc_ast.specs.Written.{PrtSimple}
use Rattle.spoc_ast.specs.Seen.{word_seen, simple_seen}
use Rattle.policy_build.specs.Views.{decls_of}
use Rattle.policy_build.specs.Protocols.{protocols_in}
use Rattle.policy_build.proofs.Called.{protocol_at, looked_up, copied_at}
use Rattle.policy_build.proofs.protocols.Protocols.simple.Goals as goal

pub returns-in_err-number : goal.returns-in_err-number
returns-in_err-number c =
    let decls = decls_of c.args.scope in
    ap (option_map (λ simple. PrtSimple (simple_seen simple) ∷ [])) c.from_residual.ensures ∙ sym (protocol_at (word_seen c.args.name) decls ∙ ap (option_and_then (slice_get (protocols_in decls))) (sym c.place.ensures ∙ c.in_err-number.was))

pub returns : goal.returns
returns c =
    let decls = decls_of c.args.scope in
    ap (option_map (λ simple. PrtSimple (simple_seen simple) ∷ [])) (c.copied.ensures ∙ copied_at c.deref.result.now c.in_ok-number.number c.get.result c.get.ensures.lookup.0 c.get.ensures.lookup.1 ∙ ap (λ l. slice_get l c.in_ok-number.number) c.deref.ensures.value)
    ∙ looked_up (λ simple. PrtSimple (simple_seen simple) ∷ []) c.args.self.now.simples.items (protocols_in decls) c.requires c.in_ok-number.number
    ∙ sym (protocol_at (word_seen c.args.name) decls ∙ ap (option_and_then (slice_get (protocols_in decls))) (sym c.in_ok-number.ensures))
