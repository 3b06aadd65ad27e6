use Rattle.std.proofs.Common.{◌+◌, ◌∷◌, ◌∙◌, drop, map, ap, sym}
use Rattle.std.proofs.lemmas.Result.{err_from_is_err_and}
use Rattle.permit_set.specs.Shown.{permit_of}
use Rattle.nat_view.specs.Sights.{sight_of}
use Rattle.acl_build.specs.Pieces.{lines_of_block}
use Rattle.acl_build.specs.Seen.{block_seen}
use Rattle.acl_build.proofs.Limits.{items_from, over_later}
use Rattle.acl_build.proofs.blocks.push_blocks.Goals as goal

pub returns-in_err-push_block-clause-refused : goal.returns-in_err-push_block-clause-refused
returns-in_err-push_block-clause-refused c =
    let sight = sight_of c.args.view in
    let blocks = c.args.blocks.now in
    let i = c.loop-block.block-index in
    let block = c.block-item.result in
    let items = items_from blocks i block c.loop-block-test.true ∙ ap (λ x. x ∷ drop (i + 1) blocks) (sym c.block-item.is) in
    let p = err_from_is_err_and c.from_residual.result c.from_residual.ensures.1 in
    rw (p.1, p.2)
    (over_later (lines_of_block sight.policy sight.tags (map permit_of c.args.permits.now)) c.args.most (map block_seen blocks) (map block_seen (drop i blocks)) (map block_seen (drop (i + 1) blocks))
    (block_seen block) c.args.lines.now.items c.loop-block.lines.items c.in_err-push_block.field-0.0 c.loop-block.invariant (ap (map block_seen) items) c.in_err-push_block.ensures.refused)
