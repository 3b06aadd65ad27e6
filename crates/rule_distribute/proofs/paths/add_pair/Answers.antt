use Rattle.std.proofs.Common.{◌∙◌, ◌<◌, length, get_or, sym, arith}
use Rattle.std.proofs.lemmas.List.{length-map, get_or_default}
use Rattle.zone_graph.specs.Grouped.{row_items}
use Rattle.zone_graph.specs.declared.marks.Crossing.{Crossing}
use Rattle.rule_distribute.proofs.Entering.{one_more}
use Rattle.rule_distribute.proofs.paths.add_pair.Goals as goal

pub loop-crossing-preserved : goal.loop-crossing-preserved
loop-crossing-preserved c =
    let it = c.loop-crossing in
    let cs = c.args.crossings.now in
    let old = c.args.rows.now in
    let rows = it.rows in
    let none : Crossing = record { enter = record { 0 = 0 }; leave = record { 0 = 0 } } in
    let item = get_or cs it.crossing-index none in
    let below : it.crossing-index < length cs = omega (arith, c.loop-crossing-test.true) in
    let is = get_or_default cs it.crossing-index none item below in
    let n = length-map old (λ r. r.items) in
    let m = length-map rows (λ r. r.items) in
    let inside = c.requires.inside it.crossing-index item below (sym is) in
    record {
      each = (c.in_ok-add_once.ensures {u = tt}).each ∙ it.invariant.each;
      entered = λ i h. one_more cs it.crossing-index c.args.w item (row_items old) (row_items rows) (row_items c.add_once.new.rows) below is (omega (arith, inside, m, it.invariant.each)) c.requires.low (m ∙ (it.invariant.each ∙ sym n))
          (c.in_ok-add_once.ensures {u = tt}).put (λ i h. it.invariant.entered i (omega (arith, h, n))) i (omega (arith, h, n));
    }
