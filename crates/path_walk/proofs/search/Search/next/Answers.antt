use Rattle.topology.specs.View.{policy_of}
use Rattle.path_walk.specs.Seen.{site_of, path_seen}
use Rattle.path_walk.specs.Stack.{branch_seen, open_seen}
use Rattle.path_walk.proofs.Pushing.{pushed}
use Rattle.path_walk.proofs.Going.{HasGoneOn, next_there, next_on}
use Rattle.path_walk.proofs.search.Search.next.Goals as goal

pub returns-then-branch : goal.returns-then-branch
returns-then-branch c =
    let s = site_of (policy_of c.args.topo) c.args.graph.now in
    let e = c.in_ok-step.ensures in
    let popped = pushed c.pop.new.self.items c.loop-branch.self.open.items c.in-Some.branch c.in-Some.ensures.items in
    next_there s c.args.from.0 c.args.to.0 (path_seen c.args.self.now.path.items) (open_seen c.args.self.now.open.items) (path_seen c.loop-branch.self.path.items) (open_seen c.loop-branch.self.open.items)
    (branch_seen c.in-Some.branch) (open_seen c.pop.new.self.items) c.in_ok-step.field-0 (path_seen c.step.new.self.path.items) (open_seen c.step.new.self.open.items)
    c.requires.elsewhere c.loop-branch.invariant popped (record { moved = e.path; there = e.there; opened = e.branches }) c.if-branch.true

gone_on : (c : goal.Else-branch) → HasGoneOn (site_of (policy_of c.args.topo) c.args.graph.now) c.args.from.0 c.args.to.0 (path_seen c.args.self.now.path.items) (open_seen c.args.self.now.open.items)
    (open_seen c.loop-branch.self.open.items) (path_seen c.step.new.self.path.items) (open_seen c.step.new.self.open.items)
gone_on c =
    let s = site_of (policy_of c.args.topo) c.args.graph.now in
    let e = c.in_ok-step.ensures in
    let popped = pushed c.pop.new.self.items c.loop-branch.self.open.items c.in-Some.branch c.in-Some.ensures.items in
    next_on s c.args.from.0 c.args.to.0 (path_seen c.args.self.now.path.items) (open_seen c.args.self.now.open.items) (path_seen c.loop-branch.self.path.items) (open_seen c.loop-branch.self.open.items)
    (branch_seen c.in-Some.branch) (open_seen c.pop.new.self.items) c.in_ok-step.field-0 (path_seen c.step.new.self.path.items) (open_seen c.step.new.self.open.items)
    c.loop-branch.invariant popped (record { moved = e.path; there = e.there; opened = e.branches }) c.if-branch.false

pub loop-branch-smaller : goal.loop-branch-smaller
loop-branch-smaller c = (gone_on c).less

pub loop-branch-preserved : goal.loop-branch-preserved
loop-branch-preserved c = (gone_on c).going
