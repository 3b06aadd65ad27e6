use Rattle.path_walk.proofs.Pushing.{followed}
use Rattle.path_walk.proofs.search.Search.follow.Goals as goal

pub returns-clause-path : goal.returns-clause-path
returns-clause-path c = followed c.args.self.now.path.items c.truncate.new.self.items c.push.new.self.items c.args.branch c.truncate.ensures.items c.in_ok-push.ensures.ok
