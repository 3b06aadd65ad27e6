use Rattle.nat_domains.proofs.Listing.{row_put}
use Rattle.nat_domains.proofs.rows.put_tag.Goals as goal

pub returns-clause-put : goal.returns-clause-put
returns-clause-put c = row_put c.args.rows.now c.args.k c.index-rows-k.result c.push.new.self c.args.tag c.requires c.in_ok-push.ensures.items
