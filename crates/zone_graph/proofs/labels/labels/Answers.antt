use Rattle.std.proofs.Common.{arith}
use Rattle.topology.specs.View.{policy_of}
use Rattle.zone_graph.proofs.Labelled.{labels_are_zones}
use Rattle.zone_graph.proofs.labels.labels.Goals as goal

pub returns-clause-table : goal.returns-clause-table
returns-clause-table c =
    labels_are_zones (policy_of c.args.topo) c.in_ok-parents.parents.items c.loop.zones.items c.loop.count c.in_ok-parents.ensures.forest c.in_ok-parents.ensures.tied.below
    c.args.topo.kept.sound.numbered.placed (omega (arith, c.loop.invariant.1, c.loop-test.false, c.net_count-end.ensures, c.loop.auto.counter-end)) c.loop.invariant.0

pub returns-clause-numbers : goal.returns-clause-numbers
returns-clause-numbers c = record { below = c.loop.invariant.0.below; used = c.loop.invariant.0.used }

pub returns-clause-few : goal.returns-clause-few
returns-clause-few c = omega (arith, c.loop.invariant.1, c.loop-test.false, c.net_count-end.ensures, c.loop.auto.counter-end, c.args.topo.kept.sound.limited.nets)
