use Rattle.std.proofs.Common.{◌<◌, ℕ, sym, subst, arith}
use Rattle.topology.specs.View.{policy_of}
use Rattle.rule_distribute.proofs.Ends.{src_there, dst_there}
use Rattle.rule_distribute.proofs.joined.joined_nets.Goals as goal

pub push_nets-requires-clause-src : goal.push_nets-requires-clause-src
push_nets-requires-clause-src c =
    subst (λ (n : ℕ). c.q-item.result.src.net.0 < n) (sym c.requires.graph.table.each)
    (src_there (policy_of c.args.topo) c.args.permits.now c.requires.permits c.loop-q.q-index c.q-item.result (omega (arith, c.loop-q-test.true)) c.q-item.is)

pub push_nets-requires-clause-dst : goal.push_nets-requires-clause-dst
push_nets-requires-clause-dst c =
    subst (λ (n : ℕ). c.q-item.result.dst.net.0 < n) (sym c.requires.graph.table.each)
    (dst_there (policy_of c.args.topo) c.args.permits.now c.requires.permits c.loop-q.q-index c.q-item.result (omega (arith, c.loop-q-test.true)) c.q-item.is)
