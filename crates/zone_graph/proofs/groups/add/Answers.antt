use Rattle.zone_graph.proofs.Filled.{row_put}
use Rattle.zone_graph.proofs.groups.add.Goals as goal

pub returns-clause-put : goal.returns-clause-put
returns-clause-put g c = row_put c.args.rows.now c.args.z c.index-rows-z.result c.push.new.self c.args.x c.requires c.in_ok-push.ensures.items
