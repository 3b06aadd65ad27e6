use Rattle.std.proofs.Common.{◌≡◌, ℕ, true, [], ◌∷◌, length, sym, subst, arith}
use Rattle.std.specs.Prelude.{◌==◌}
use Rattle.std.proofs.lemmas.Bool.{eqb-true}
use Rattle.std.proofs.Math.ListN.{length-map}
use Rattle.policy_model.specs.Policy.{router_at}
use Rattle.topology.specs.View.{policy_of}
use Rattle.group_expand.specs.Seen.{iface_numbers}
use Rattle.group_expand.specs.Spread.{marked}
use Rattle.group_expand.proofs.Rows.{in_row, at_number}
use Rattle.zone_hops.specs.Search.{numbers_of}
use Rattle.zone_hops.proofs.Marking.{goes_not, goes_on, sees_one, sees_all, finished}
use Rattle.zone_hops.proofs.search.fan_out.Goals as goal

pub loop-j-init : goal.loop-j-init
loop-j-init c = (goes_not c.args.seen.now c.args.passed.now (numbers_of c.args.left.now.items), λ t here s. s, λ k h apart. absurd (omega arith))

pub visit_by-requires-clause-there : goal.visit_by-requires-clause-there
visit_by-requires-clause-there c =
    let p = policy_of c.args.topo in
    (in_row (λ i. router_at p i == c.args.r.0) (length p.ifaces) c.ifs_of-row.result.now c.ifs_of-row.ensures c.loop-j.j-index c.loop-j-test.true).0

pub loop-j-preserved : goal.loop-j-preserved
loop-j-preserved c =
    let p = policy_of c.args.topo in
    let r = c.args.r.0 in
    let row = c.ifs_of-row.result.now in
    let k = c.loop-j.j-index in
    let there = in_row (λ i. router_at p i == r) (length p.ifaces) row c.ifs_of-row.ensures k c.loop-j-test.true in
    let its = eqb-true _ r there.1 in
    let here = c.in_ok-visit_by.ensures in (
      goes_on c.args.seen.now c.args.passed.now (numbers_of c.args.left.now.items) c.loop-j.seen c.loop-j.passed (numbers_of c.loop-j.left.items)
          c.visit_by.new.seen c.visit_by.new.passed (numbers_of c.visit_by.new.left.items) c.loop-j.invariant.0 here.goes,
      λ t first s. here.keeps t (r ∷ []) (subst (λ (x : ℕ). marked c.loop-j.passed x ≡ true) (sym its) (c.loop-j.invariant.0.grown.grows r first)) (c.loop-j.invariant.1 t first s),
      sees_one p c.args.at.0 k _ c.loop-j.seen c.visit_by.new.seen (iface_numbers row) here.goes.grows (at_number row k) here.seen c.loop-j.invariant.2,
    )

pub returns-clause-keeps : goal.returns-clause-keeps
returns-clause-keeps c =
    let p = policy_of c.args.topo in
    let row = c.ifs_of-row.result.now in
    let long = length-map row (λ i. i.0) in
    λ t here s. finished p c.args.at.0 t c.args.r.0 c.loop-j.seen c.loop-j.passed (numbers_of c.loop-j.left.items)
    (sees_all p c.args.at.0 c.args.r.0 c.loop-j.j-index c.loop-j.seen (iface_numbers row) c.ifs_of-row.ensures (omega (arith, long, c.loop-j-test.false)) c.loop-j.invariant.2)
    (c.loop-j.invariant.1 t here s)
