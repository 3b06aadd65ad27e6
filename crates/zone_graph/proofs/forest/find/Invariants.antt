use Rattle.std.proofs.Common.{◌<◌, ℕ, length}
use Rattle.policy_model.specs.Zones.{AreJoined}
use Rattle.topology.specs.View.{policy_of}
use Rattle.zone_graph.specs.Forest.{IsForest, AreTied, KeepsTies, IsRoot}
use Rattle.zone_graph.proofs.forest.find.Given as goal

abbrev pub invariant-loop-parents : goal.invariant-loop-parents
invariant-loop-parents l =
    IsForest (policy_of l.topo) l.parents × (l.at < length l.parents) × KeepsTies l.fn.parents l.parents × AreTied l.parents l.n l.at
    × AreJoined (policy_of l.topo) l.n l.at × ((k : ℕ) → IsRoot l.fn.parents k → IsRoot l.parents k)

abbrev pub decreases-loop-parents : goal.decreases-loop-parents
decreases-loop-parents l = l.at
