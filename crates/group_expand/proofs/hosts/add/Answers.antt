use Rattle.group_expand.proofs.RowFilling.{row_put}
use Rattle.group_expand.proofs.hosts.add.Goals as goal

pub returns : goal.returns
returns c = row_put c.args.rows.now c.args.n c.index-rows-n.result c.push.new.self c.args.host c.requires c.in_ok-push.ensures.items
