use Rattle.std.proofs.Common.{◌+◌, ◌∷◌, ◌∙◌, drop, ap, sym}
use Rattle.std.proofs.lemmas.Result.{err_from_is_err_and}
use Rattle.permit_lines.specs.Pieces.{lines_of_cover}
use Rattle.permit_lines.specs.Seen.{cover_seen}
use Rattle.permit_lines.specs.declared.cover.PermitCover.{PermitCover}
use Rattle.acl_build.proofs.Limits.{items_from, over_later}
use Rattle.acl_build.proofs.covers.push_covers.Goals as goal

pub returns-in_err-push_cover-clause-refused : goal.returns-in_err-push_cover-clause-refused
returns-in_err-push_cover-clause-refused c =
    let covers = c.args.covers.now in
    let i = c.loop-cover.cover-index in
    let cover = c.cover-item.result in
    let items = items_from covers i cover c.loop-cover-test.true ∙ ap (λ x. x ∷ drop (i + 1) covers) (sym c.cover-item.is) in
    let p = err_from_is_err_and c.from_residual.result c.from_residual.ensures.1 in
    rw (p.1, p.2)
    (over_later (λ (x : PermitCover). lines_of_cover (cover_seen x)) c.args.most covers (drop i covers) (drop (i + 1) covers) cover c.args.lines.now.items c.loop-cover.lines.items c.in_err-push_cover.field-0.0
    c.loop-cover.invariant items c.in_err-push_cover.ensures.refused)
