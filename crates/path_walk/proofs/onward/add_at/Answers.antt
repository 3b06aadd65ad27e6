use Rattle.std.proofs.Common.{sym, ◌∙◌}
use Rattle.topology.specs.View.{policy_of}
use Rattle.path_walk.specs.Seen.{site_of, path_seen}
use Rattle.path_walk.proofs.Passed.{nothing_by}
use Rattle.path_walk.proofs.onward.add_at.Goals as goal

pub returns-then-passes_router : goal.returns-then-passes_router
returns-then-passes_router c =
    nothing_by (site_of (policy_of c.args.topo) c.args.graph.now) c.args.from.0 (path_seen c.args.path.now) c.args.enter.0
    (rw (← c.router_at-router.ensures) (sym c.passes_router.ensures ∙ c.if-passes_router.true)) (path_seen c.args.found.now.items)
