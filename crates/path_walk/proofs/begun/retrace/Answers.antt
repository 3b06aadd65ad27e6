use Rattle.std.proofs.Common.{◌∙◌, ap, refl}
use Rattle.topology.specs.View.{policy_of}
use Rattle.path_walk.specs.Seen.{site_of, path_seen, step_seen}
use Rattle.path_walk.proofs.Starts.{empty_begins}
use Rattle.path_walk.proofs.Retracing.{along_more, along_no_more, along_whole}
use Rattle.path_walk.proofs.begun.retrace.Goals as goal

pub loop-c-init : goal.loop-c-init
loop-c-init c =
    (record { path_is = ap path_seen c.requires.start; begun = empty_begins (site_of (policy_of c.args.topo) c.args.graph.now) c.args.from.0 }, refl)

pub loop-c-preserved : goal.loop-c-preserved
loop-c-preserved c = (
  along_more (site_of (policy_of c.args.topo) c.args.graph.now) c.args.from.0 c.args.crossings.now c.loop-c.c-index (record { enter = record { 0 = 0 }; leave = record { 0 = 0 } })
      (path_seen c.loop-c.search.path.items) (path_seen c.extend.new.self.path.items) (step_seen c.of.result) c.in_ok-extend.field-0 c.loop-c-test.true c.loop-c.invariant.0
      c.of.ensures c.in_ok-extend.ensures.may c.in_ok-extend.ensures.path c.if-not-branch.false,
  c.extend.ensures.branches ∙ c.loop-c.invariant.1,
)

pub returns-then-not-branch-clause-may : goal.returns-then-not-branch-clause-may
returns-then-not-branch-clause-may c =
    along_no_more (site_of (policy_of c.args.topo) c.args.graph.now) c.args.from.0 c.args.crossings.now c.loop-c.c-index (record { enter = record { 0 = 0 }; leave = record { 0 = 0 } })
    (path_seen c.loop-c.search.path.items) (step_seen c.of.result) c.in_ok-extend.field-0 c.loop-c-test.true c.loop-c.invariant.0 c.of.ensures c.in_ok-extend.ensures.may c.if-not-branch.true

pub returns-clause-may : goal.returns-clause-may
returns-clause-may c =
    (along_whole (site_of (policy_of c.args.topo) c.args.graph.now) c.args.from.0 c.args.crossings.now c.loop-c.c-index (path_seen c.loop-c.search.path.items) c.loop-c-test.false c.loop-c.invariant.0).1

pub returns-clause-path : goal.returns-clause-path
returns-clause-path c = λ t.
    (along_whole (site_of (policy_of c.args.topo) c.args.graph.now) c.args.from.0 c.args.crossings.now c.loop-c.c-index (path_seen c.loop-c.search.path.items) c.loop-c-test.false c.loop-c.invariant.0).0
