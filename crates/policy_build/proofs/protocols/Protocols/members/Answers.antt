use Rattle.std.proofs.Common.{◌∙◌, ap, sym, map, option_and_then, option_map}
use Rattle.std.specs.List.{slice_get}
use Rattle.spoc_ast.specs.Seen.{word_seen, prt_seen}
use Rattle.policy_build.specs.Views.{decls_of}
use Rattle.policy_build.specs.Protocols.{groups_in}
use Rattle.policy_build.proofs.Called.{group_at, looked_up, copied_at}
use Rattle.policy_build.proofs.protocols.Protocols.members.Goals as goal

pub returns-in_err-number : goal.returns-in_err-number
returns-in_err-number c =
    let decls = decls_of c.args.scope in
    ap (option_map (λ prts. map prt_seen prts.now)) c.from_residual.ensures ∙ sym (group_at (word_seen c.args.name) decls ∙ ap (option_and_then (slice_get (groups_in decls))) (sym c.place.ensures ∙ c.in_err-number.was))

pub returns : goal.returns
returns c =
    let decls = decls_of c.args.scope in
    ap (option_map (λ prts. map prt_seen prts.now)) (c.copied.ensures ∙ copied_at c.deref.result.now c.in_ok-number.number c.get.result c.get.ensures.lookup.0 c.get.ensures.lookup.1 ∙ ap (λ l. slice_get l c.in_ok-number.number) c.deref.ensures.value)
    ∙ looked_up (λ prts. map prt_seen prts.now) c.args.self.now.groups.items (groups_in decls) c.requires c.in_ok-number.number
    ∙ sym (group_at (word_seen c.args.name) decls ∙ ap (option_and_then (slice_get (groups_in decls))) (sym c.in_ok-number.ensures))
