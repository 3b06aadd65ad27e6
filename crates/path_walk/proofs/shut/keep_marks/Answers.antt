use Rattle.std.proofs.Common.{◌∙◌, ◌<◌, sym, subst, length}
use Rattle.topology.specs.View.{policy_of}
use Rattle.path_walk.specs.Seen.{site_of, path_seen}
use Rattle.path_walk.specs.Shut.{keeps_marks}
use Rattle.path_walk.proofs.Shutting.{all_more, all_but_one}
use Rattle.path_walk.proofs.shut.keep_marks.Goals as goal

pub returns-then-not-keeps_marks : goal.returns-then-not-keeps_marks
returns-then-not-keeps_marks c =
    sym (all_but_one (keeps_marks (site_of (policy_of c.args.topo) c.args.graph.now) c.args.from.0 (path_seen c.args.path.now) c.args.zones.now c.args.routers.now)
    (length (policy_of c.args.topo).ifaces) c.loop-i.i (subst (λ n. c.loop-i.i < n) c.iface_count-i-end.ensures c.loop-i-test.true) (sym c.keeps_marks.ensures ∙ c.if-not-keeps_marks.true))

pub loop-i-preserved : goal.loop-i-preserved
loop-i-preserved c =
    all_more (keeps_marks (site_of (policy_of c.args.topo) c.args.graph.now) c.args.from.0 (path_seen c.args.path.now) c.args.zones.now c.args.routers.now)
    c.loop-i.i c.loop-i.invariant (sym c.keeps_marks.ensures ∙ c.if-not-keeps_marks.false)
