use Rattle.policy_nesting.specs.Graph.{AreChains}
use Rattle.policy_nesting.proofs.graph.chains.Given as goal

abbrev pub invariant-loop : goal.invariant-loop
invariant-loop l = AreChains l.rows l.counter l.flags.items
