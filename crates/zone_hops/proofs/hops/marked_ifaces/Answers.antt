use Rattle.std.proofs.Common.{ℕ, length, arith}
use Rattle.std.specs.Prelude.{◌==◌, filter}
use Rattle.std.proofs.Math.ListN.{length-map}
use Rattle.policy_model.specs.Policy.{net_at, router_at}
use Rattle.topology.specs.View.{policy_of}
use Rattle.topology.specs.Kept.{ifaces_at}
use Rattle.group_expand.specs.Seen.{iface_numbers}
use Rattle.group_expand.specs.Spread.{marked}
use Rattle.group_expand.proofs.Rows.{in_row, at_number}
use Rattle.zone_hops.proofs.Beginnings.{pushed_on, pushed_all}
use Rattle.zone_hops.proofs.hops.marked_ifaces.Goals as goal

pub push_marked-requires-clause-there : goal.push_marked-requires-clause-there
push_marked-requires-clause-there c =
    let p = policy_of c.args.topo in
    (in_row (λ i. net_at p i == c.args.at.0) (length p.ifaces) c.ifs_at-row.result.now c.ifs_at-row.ensures c.loop-i.i-index c.loop-i-test.true).0

pub loop-i-preserved : goal.loop-i-preserved
loop-i-preserved c =
    let p = policy_of c.args.topo in
    let row = c.ifs_at-row.result.now in
    let k = c.loop-i.i-index in
    let long = length-map row (λ i. i.0) in
    let test = λ (i : ℕ). marked c.args.passed.now (router_at p i) in
    pushed_on test (iface_numbers row) (iface_numbers c.loop-i.hops.items) (iface_numbers c.push_marked.new.hops.items) (filter test (iface_numbers row)) _ k (at_number row k)
    (omega (arith, long, c.loop-i-test.true)) c.in_ok-push_marked.ensures c.loop-i.invariant

pub returns : goal.returns
returns c =
    let p = policy_of c.args.topo in
    let row = c.ifs_at-row.result.now in
    let long = length-map row (λ i. i.0) in
    let test = λ (i : ℕ). marked c.args.passed.now (router_at p i) in
    pushed_all test (iface_numbers row) (iface_numbers c.loop-i.hops.items) (ifaces_at p c.args.at.0) c.loop-i.i-index c.ifs_at-row.ensures
    (omega (arith, long, c.loop-i-test.false)) c.loop-i.invariant
