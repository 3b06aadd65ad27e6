use Rattle.std.proofs.Common.{◌∙◌, arith}
use Rattle.std.proofs.lemmas.List.{length-set}
use Rattle.std.proofs.Math.ListN.{length-map}
use Rattle.group_expand.specs.Seen.{iface_numbers}
use Rattle.group_expand.proofs.Rows.{at_number}
use Rattle.group_expand.proofs.Marks.{marks_next}
use Rattle.group_expand.proofs.spread.mark.Goals as goal

pub loop-i-preserved : goal.loop-i-preserved
loop-i-preserved c =
    let row = c.args.ifaces.now in
    let k = c.loop-i.i-index in
    let long = length-map row (λ i. i.0) in
    let there = c.requires k (record { 0 = 0 }) c.loop-i-test.true in (
      length-set c.loop-i.marks.items _ _ ∙ c.loop-i.invariant.0,
      marks_next c.loop-i.marks.items _ k (iface_numbers row) (iface_numbers row) (at_number row k) (omega (arith, long, c.loop-i-test.true))
          (omega (arith, there, c.loop-i.invariant.0)) c.loop-i.invariant.1,
    )
