use Rattle.std.proofs.Common.{◌∙◌, ◌+◌, ◌&&◌, length, arith, drop}
use Rattle.std.specs.Prelude.{◌==◌, slice_index}
use Rattle.std.proofs.lemmas.Bool.{eqb-true, and_parts}
use Rattle.std.proofs.Math.ListN.{length-map}
use Rattle.policy_model.specs.Policy.{router_at, net_at, is_managed}
use Rattle.topology.specs.View.{policy_of}
use Rattle.zone_graph.specs.Grouped.{doors_with}
use Rattle.group_expand.specs.Seen.{site_of, numbers_of, iface_numbers}
use Rattle.group_expand.proofs.Rows.{in_row, at_number}
use Rattle.group_expand.proofs.Search.{stays, goes_on, goes_as, goes_whole}
use Rattle.group_expand.proofs.spread.leave_zone.Goals as goal

pub loop-i-init : goal.loop-i-init
loop-i-init c =
    let s = site_of c.args.topo c.args.graph.now in
    stays s c.args.marks.now c.args.z.0 c.args.seen.now (numbers_of c.args.left.now.items) c.args.passed.now (iface_numbers c.doors-row.result.now)

pub pass-requires-clause-there : goal.pass-requires-clause-there
pass-requires-clause-there c =
    let p = policy_of c.args.topo in
    let g = c.args.graph.now in
    let z = c.args.z.0 in
    let its = c.doors-row.ensures ∙ c.requires.graph.doors_are z (omega (arith, c.requires.there, c.requires.graph.both)) in
    (in_row (λ i. is_managed p (router_at p i) && (slice_index g.zones (net_at p i) == z)) (length p.ifaces) c.doors-row.result.now its c.loop-i.i-index c.loop-i-test.true).0

pub pass-requires-clause-managed : goal.pass-requires-clause-managed
pass-requires-clause-managed c =
    let p = policy_of c.args.topo in
    let g = c.args.graph.now in
    let z = c.args.z.0 in
    let its = c.doors-row.ensures ∙ c.requires.graph.doors_are z (omega (arith, c.requires.there, c.requires.graph.both)) in
    (and_parts _ _ (in_row (λ i. is_managed p (router_at p i) && (slice_index g.zones (net_at p i) == z)) (length p.ifaces) c.doors-row.result.now its c.loop-i.i-index c.loop-i-test.true).1).0

pub loop-i-preserved : goal.loop-i-preserved
loop-i-preserved c =
    let s = site_of c.args.topo c.args.graph.now in
    let p = s.policy in
    let z = c.args.z.0 in
    let marks = c.args.marks.now in
    let row = c.doors-row.result.now in
    let nums = iface_numbers row in
    let k = c.loop-i.i-index in
    let long = length-map row (λ i. i.0) in
    let its = c.doors-row.ensures ∙ c.requires.graph.doors_are z (omega (arith, c.requires.there, c.requires.graph.both)) in
    let there = in_row (λ i. is_managed p (router_at p i) && (slice_index s.zones (net_at p i) == z)) (length p.ifaces) row its k c.loop-i-test.true in
    goes_on s marks z c.args.seen.now c.args.passed.now c.loop-i.seen c.loop-i.passed c.pass.new.seen c.pass.new.passed (numbers_of c.args.left.now.items) nums
    (numbers_of c.loop-i.left.items) (drop k nums) (numbers_of c.pass.new.left.items) (drop (k + 1) nums) c.loop-i.invariant
    (goes_as s marks z _ k nums c.loop-i.seen c.loop-i.passed (numbers_of c.loop-i.left.items) c.pass.new.seen c.pass.new.passed (numbers_of c.pass.new.left.items)
    (eqb-true _ z (and_parts _ _ there.1).1) (at_number row k) (omega (arith, long, c.loop-i-test.true)) (c.in_ok-pass.ensures.goes (drop (k + 1) nums)))

pub returns : goal.returns
returns c =
    let s = site_of c.args.topo c.args.graph.now in
    let z = c.args.z.0 in
    let row = c.doors-row.result.now in
    let long = length-map row (λ i. i.0) in
    let its = c.doors-row.ensures ∙ c.requires.graph.doors_are z (omega (arith, c.requires.there, c.requires.graph.both)) in
    record {
      goes = goes_whole s c.args.marks.now z c.loop-i.i-index (iface_numbers row) (doors_with s.policy s.zones z) c.args.seen.now c.args.passed.now (numbers_of c.args.left.now.items)
          c.loop-i.seen c.loop-i.passed (numbers_of c.loop-i.left.items) its (omega (arith, long, c.loop-i-test.false)) c.loop-i.invariant;
    }
