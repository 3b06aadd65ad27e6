use Rattle.std.proofs.Common.{ap}
use Rattle.topology.specs.View.{policy_of}
use Rattle.path_walk.specs.Seen.{site_of, path_seen}
use Rattle.path_walk.specs.Stack.{branch_seen, open_seen}
use Rattle.path_walk.specs.Swept.{numbers_of}
use Rattle.path_walk.proofs.Pushing.{pushed}
use Rattle.path_walk.proofs.Open.{swept_on}
use Rattle.path_walk.proofs.search.Search.advance.Goals as goal

pub returns : goal.returns
returns c =
    let s = site_of (policy_of c.args.topo) c.args.graph.now in
    let popped = pushed c.pop.new.self.items c.args.self.now.open.items c.in-Some.branch c.in-Some.ensures.items in
    swept_on s c.args.from.0 (numbers_of c.args.wanted.now) (path_seen c.args.self.now.path.items) (path_seen c.follow.new.self.path.items) (path_seen c.expand_towards.new.self.path.items) (branch_seen c.in-Some.branch) (open_seen c.args.self.now.open.items)
    (open_seen c.pop.new.self.items) (open_seen c.follow.new.self.open.items) (open_seen c.expand_towards.new.self.open.items) c.zone_at.result.0 c.requires.branches popped
    c.in_ok-follow.ensures.path (ap path_seen c.expand_towards.ensures.path) (ap open_seen c.follow.ensures.branches) c.zone_at.ensures c.in_ok-expand_towards.ensures.branches
