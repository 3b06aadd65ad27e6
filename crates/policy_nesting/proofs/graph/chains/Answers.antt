use Rattle.std.proofs.Common.{arith, ap, ◌∙◌, map}
use Rattle.std.specs.List.{list_any}
use Rattle.policy_nesting.specs.Graph.{flag_at}
use Rattle.policy_nesting.proofs.Chains.{longer_chains}
use Rattle.policy_nesting.proofs.graph.chains.Goals as goal

pub loop-preserved : goal.loop-preserved
loop-preserved c =
    longer_chains c.args.rows.now c.loop.counter c.loop.flags.items c.in_ok-flags-2.flags.items c.requires.nodes (omega arith) c.loop.invariant
    (c.in_ok-flags-2.ensures ∙ ap (λ l. map (list_any (flag_at l)) c.args.rows.now) c.deref.ensures.value)
