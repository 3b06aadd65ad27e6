use Rattle.std.proofs.Common.{◌≡◌, ap, map, subst, ◌∙◌}
use Rattle.permit_set.specs.Shown.{permit_of}
use Rattle.nat_view.specs.Sights.{sight_of}
use Rattle.permit_lines.specs.Pieces.{numbered_lines}
use Rattle.permit_lines.specs.Seen.{lines_of_covers}
use Rattle.acl_build.specs.Pieces.{closing_of}
use Rattle.acl_build.specs.Seen.{block_seen, GrowsBy}
use Rattle.acl_build.proofs.Limits.{second_refused}
use Rattle.acl_build.proofs.blocks.push_block.Goals as goal

pub returns-clause-refused : goal.returns-clause-refused
returns-clause-refused c =
    let sight = sight_of c.args.view in
    let block = block_seen c.args.block.now in
    let first = numbered_lines sight.policy sight.tags (map permit_of c.args.permits.now) block.forward block.mirrored in
    let old = c.args.lines.now.items in
    let mid = c.push_covers.new.lines.items in
    let numbers : numbered_lines sight.policy sight.tags (map permit_of c.args.permits.now) c.items.result.now c.items-2.result.now ≡ first = λ i. numbered_lines sight.policy sight.tags (map permit_of c.args.permits.now) (c.items.ensures i) (c.items-2.ensures i) in
    let grown : GrowsBy first old mid = subst (λ ls. GrowsBy ls old mid) (ap lines_of_covers c.deref.ensures.value ∙ (c.in_ok-covers.ensures ∙ numbers)) c.in_ok-push_covers.ensures.lines in
    second_refused c.args.most first (closing_of sight.policy sight.tags block) old mid c.push_closing.result grown c.push_closing.ensures.refused
