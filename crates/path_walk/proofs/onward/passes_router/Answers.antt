use Rattle.std.proofs.Common.{◌∙◌, sym}
use Rattle.topology.specs.View.{policy_of}
use Rattle.path_walk.proofs.Bridges.{routers_passed}
use Rattle.path_walk.proofs.onward.passes_router.Goals as goal

pub returns : goal.returns
returns c = c.enters_router.ensures ∙ sym (routers_passed (policy_of c.args.topo) c.args.router.0 c.args.path.now)
