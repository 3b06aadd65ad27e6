use Rattle.std.proofs.Common.{◌≡◌, ◌∙◌, length, arith}
use Rattle.std.proofs.lemmas.List.{length-map}
use Rattle.policy_model.specs.Zones.{zone_of}
use Rattle.topology.specs.View.{policy_of}
use Rattle.zone_graph.specs.Grouped.{row_items}
use Rattle.permit_lines.specs.Given.{site_with}
use Rattle.rule_distribute.specs.Rows.{pair_at}
use Rattle.rule_distribute.proofs.PathRows.{are_low, next_pair, enter_below}
use Rattle.rule_distribute.proofs.paths.fill_paths.Goals as goal

pub add_pair-requires-clause-inside : goal.add_pair-requires-clause-inside
add_pair-requires-clause-inside c =
    let s = site_with (policy_of c.args.topo) c.args.graph.now in
    let pair = pair_at c.args.pairs.now c.loop-w.w in
    let n = length-map c.args.rows.now (λ r. r.items) in
    let count : length s.policy.ifaces ≡ length c.loop-w.rows = omega (arith, n, c.requires.empty.length_is, c.loop-w.invariant.each) in
    enter_below s c.crossings_of-crossings.result.now (zone_of s pair.0) (zone_of s pair.1) (length c.loop-w.rows) c.crossings_of-crossings.ensures count

pub add_pair-requires-clause-low : goal.add_pair-requires-clause-low
add_pair-requires-clause-low c =
    are_low (site_with (policy_of c.args.topo) c.args.graph.now) c.args.pairs.now c.loop-w.w (row_items c.loop-w.rows) c.loop-w.invariant.groups

pub loop-w-preserved : goal.loop-w-preserved
loop-w-preserved c =
    let s = site_with (policy_of c.args.topo) c.args.graph.now in
    let old = row_items c.loop-w.rows in
    let new = row_items c.add_pair.new.rows in
    let n = length-map c.loop-w.rows (λ r. r.items) in
    let m = length-map c.add_pair.new.rows (λ r. r.items) in
    let e = (c.in_ok-add_pair.ensures {u = tt}).each in
    record {
      each = e ∙ c.loop-w.invariant.each;
      groups = next_pair s c.args.pairs.now c.loop-w.w old c.loop-w.invariant.groups c.crossings_of-crossings.result.now new (omega (arith, n, m, e)) c.crossings_of-crossings.ensures
          (λ i h. (c.in_ok-add_pair.ensures {u = tt}).rows i (omega (arith, h, n)));
    }
