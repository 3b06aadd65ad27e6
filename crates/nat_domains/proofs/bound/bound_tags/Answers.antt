use Rattle.std.proofs.Common.{◌≡◌, ℕ, length, subst, arith}
use Rattle.topology.specs.View.{policy_of}
use Rattle.nat_domains.specs.Bound.{AreBoundMarked}
use Rattle.nat_domains.proofs.bound.bound_tags.Goals as goal

pub returns-clause-marked : goal.returns-clause-marked
returns-clause-marked c =
    let p = policy_of c.args.topo in
    let e : c.loop-i.i ≡ length p.ifaces = omega (arith, c.loop-i-test.false, c.loop-i.auto.i-end, c.iface_count-i-end.ensures) in
    subst (λ (n : ℕ). AreBoundMarked p n c.loop-i.marks.items) e c.loop-i.invariant.1
