use Rattle.std.proofs.Common.{◌-◌, ℕ, subst, sym, arith, slice_index}
use Rattle.policy_model.specs.Policy.{net_at}
use Rattle.policy_model.specs.Zones.{AreJoined}
use Rattle.policy_model.specs.Tags.{ifaces_of}
use Rattle.topology.specs.View.{policy_of}
use Rattle.zone_graph.proofs.Routers.{neighbours_joined, next_tied}
use Rattle.zone_graph.proofs.forest.join_router.Goals as goal

pub join-requires-clause-joined : goal.join-requires-clause-joined
join-requires-clause-joined c =
    let p = policy_of c.args.topo in
    let k = c.loop-k.k in
    subst (λ (x : ℕ). AreJoined p x c.net_in-b.result) (sym c.net_in-a.ensures.value)
    (subst (λ (x : ℕ). AreJoined p (net_at p (slice_index (ifaces_of p c.args.r.0) (k - 1))) x) (sym c.net_in-b.ensures.value)
    (neighbours_joined p c.args.r.0 (k - 1) k c.requires.unmanaged (omega (arith, c.loop-k-test.true, c.row_length-count.ensures)) (omega (arith, c.loop-k-test.true, c.row_length-count.ensures))))

pub loop-k-preserved : goal.loop-k-preserved
loop-k-preserved c =
    let p = policy_of c.args.topo in
    let old = c.loop-k.invariant in (
      c.join.ensures.forest,
      λ label h. old.1 label (c.join.ensures.ties label h),
      omega (arith, old.2),
      next_tied p c.loop-k.parents c.join.new.parents (ifaces_of p c.args.r.0) c.loop-k.k c.net_in-a.result c.net_in-b.result old.2 c.join.ensures.ties old.3
          c.net_in-a.ensures.value c.net_in-b.ensures.value c.join.ensures.tied,
    )

pub returns-clause-tied : goal.returns-clause-tied
returns-clause-tied c k h = c.loop-k.invariant.3 k (omega (arith, h, c.loop-k-test.false, c.row_length-count.ensures)) h
