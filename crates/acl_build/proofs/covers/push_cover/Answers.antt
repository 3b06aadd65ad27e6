use Rattle.std.proofs.Common.{◌∙◌}
use Rattle.acl_build.proofs.Limits.{cover_grows}
use Rattle.acl_build.proofs.covers.push_cover.Goals as goal

pub returns-clause-lines : goal.returns-clause-lines
returns-clause-lines c =
    cover_grows c.args.cover.now c.in_ok-srcs.srcs.now c.in_ok-dsts.dsts.now c.args.lines.now.items c.push_lines.new.lines.items (c.in_ok-srcs.ensures ∙ c.items.ensures)
    (c.in_ok-dsts.ensures ∙ c.items-2.ensures) c.in_ok-push_lines.ensures
