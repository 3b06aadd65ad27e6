use Rattle.std.proofs.Common.{length, arith}
use Rattle.std.specs.Prelude.{◌==◌}
use Rattle.std.proofs.lemmas.Bool.{eqb-true}
use Rattle.std.proofs.Math.ListN.{length-map}
use Rattle.policy_model.specs.Policy.{net_at}
use Rattle.topology.specs.View.{policy_of}
use Rattle.topology.specs.Kept.{ifaces_at}
use Rattle.group_expand.specs.Seen.{iface_numbers}
use Rattle.group_expand.proofs.Rows.{in_row, at_number}
use Rattle.zone_hops.specs.Search.{numbers_of}
use Rattle.zone_hops.proofs.Marking.{grown_not, grown_on, looked_on, looked_all}
use Rattle.zone_hops.proofs.search.look_round.Goals as goal

pub loop-i-init : goal.loop-i-init
loop-i-init c = (grown_not c.args.passed.now (numbers_of c.args.left.now.items), λ n t seen now here s. s)

pub reach-requires-clause-there : goal.reach-requires-clause-there
reach-requires-clause-there c =
    let p = policy_of c.args.topo in
    (in_row (λ i. net_at p i == c.args.n.0) (length p.ifaces) c.ifs_at-row.result.now c.ifs_at-row.ensures c.loop-i.i-index c.loop-i-test.true).0

pub loop-i-preserved : goal.loop-i-preserved
loop-i-preserved c =
    let p = policy_of c.args.topo in
    let m = c.args.n.0 in
    let row = c.ifs_at-row.result.now in
    let k = c.loop-i.i-index in
    let long = length-map row (λ i. i.0) in
    let there = in_row (λ i. net_at p i == m) (length p.ifaces) row c.ifs_at-row.ensures k c.loop-i-test.true in
    let old = numbers_of c.args.left.now.items in
    let some = numbers_of c.loop-i.left.items in
    let more = numbers_of c.reach.new.left.items in (
      grown_on c.args.passed.now c.loop-i.passed c.reach.new.passed old some more c.loop-i.invariant.0 c.in_ok-reach.ensures.grown,
      looked_on p m _ k c.args.passed.now c.loop-i.passed c.reach.new.passed old some more (iface_numbers row) (at_number row k) (omega (arith, long, c.loop-i-test.true))
          (eqb-true _ m there.1) c.loop-i.invariant.1 c.in_ok-reach.ensures.keeps,
    )

pub returns-clause-keeps : goal.returns-clause-keeps
returns-clause-keeps c =
    let p = policy_of c.args.topo in
    let row = c.ifs_at-row.result.now in
    let long = length-map row (λ i. i.0) in
    looked_all p c.args.n.0 c.loop-i.i-index c.args.passed.now c.loop-i.passed (numbers_of c.args.left.now.items) (numbers_of c.loop-i.left.items) (iface_numbers row) (ifaces_at p c.args.n.0)
    c.ifs_at-row.ensures (omega (arith, long, c.loop-i-test.false)) c.loop-i.invariant.1
