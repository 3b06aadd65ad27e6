use Rattle.rule_distribute.proofs.Filled.{row_put}
use Rattle.rule_distribute.proofs.rows.add.Goals as goal

pub returns-clause-put : goal.returns-clause-put
returns-clause-put g c = row_put c.args.rows.now c.args.w c.index-rows-w.result c.push.new.self c.args.x c.requires c.in_ok-push.ensures.items
