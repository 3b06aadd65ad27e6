use Rattle.topology.specs.View.{policy_of}
use Rattle.zone_graph.specs.Forest.{IsForest, TiesBelow}
use Rattle.zone_graph.proofs.forest.join_all.Given as goal

abbrev pub invariant-loop-r : goal.invariant-loop-r
invariant-loop-r l = IsForest (policy_of l.topo) l.parents × TiesBelow (policy_of l.topo) l.parents l.r
