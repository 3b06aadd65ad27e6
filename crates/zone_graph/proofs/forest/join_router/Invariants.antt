use Rattle.std.proofs.Common.{ℕ, ◌+◌, ◌<◌, ◌≤◌, length, slice_index}
use Rattle.policy_model.specs.Policy.{net_at}
use Rattle.policy_model.specs.Tags.{ifaces_of}
use Rattle.topology.specs.View.{policy_of}
use Rattle.zone_graph.specs.Forest.{IsForest, AreTied, KeepsTies}
use Rattle.zone_graph.proofs.forest.join_router.Given as goal

abbrev pub invariant-loop-k : goal.invariant-loop-k
invariant-loop-k l =
    let p = policy_of l.topo in let ifs = ifaces_of p l.fn.r.0 in
    IsForest p l.parents × KeepsTies l.fn.parents l.parents × (1 ≤ l.k)
    × ((j : ℕ) → j + 1 < l.k → j + 1 < length ifs → AreTied l.parents (net_at p (slice_index ifs j)) (net_at p (slice_index ifs (j + 1))))
