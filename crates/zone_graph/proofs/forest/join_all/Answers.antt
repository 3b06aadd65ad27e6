use Rattle.std.proofs.Common.{arith}
use Rattle.topology.specs.View.{policy_of}
use Rattle.zone_graph.proofs.Routers.{more_tied}
use Rattle.zone_graph.proofs.forest.join_all.Goals as goal

pub loop-r-preserved : goal.loop-r-preserved
loop-r-preserved c = (
  c.join_unmanaged.ensures.forest,
  more_tied (policy_of c.args.topo) c.loop-r.parents c.join_unmanaged.new.parents c.loop-r.r c.join_unmanaged.ensures.ties c.loop-r.invariant.1 c.join_unmanaged.ensures.tied,
)

pub returns-clause-tied : goal.returns-clause-tied
returns-clause-tied c = record { below = λ r h. c.loop-r.invariant.1 r (omega (arith, h, c.loop-r-test.false, c.router_count-r-end.ensures)) }
