use Rattle.std.proofs.Common.{sym, subst, ap, ◌∙◌}
use Rattle.local_optimise.specs.Held.{held_by, IsIndexed}
use Rattle.local_optimise.proofs.Passes.{one_kept, one_dropped}
use Rattle.local_optimise.proofs.first_pass.uncovered.Goals.{then-not-is_covered+in_ok-put, else-not-is_covered}
use Rattle.local_optimise.proofs.first_pass.uncovered.Goals as goal

pub loop-line-preserved : goal.loop-line-preserved
loop-line-preserved c =
    let lines = c.args.lines.now in
    let i = c.loop-line.line-index in
    let x = c.line-item.result in
    let left = c.loop-line.above.lines.items in
    elim c.if-not-is_covered.branch [
      | then-not-is_covered+in_ok-put w ↦ record {
        indexed = subst IsIndexed (sym w.above-is) w.in_ok-put.ensures.indexed;
        kept = ap held_by w.above-is ∙ one_kept lines i x left w.put.new.self.lines.items c.loop-line-test.true c.line-item.is c.loop-line.invariant.kept (sym c.is_covered.ensures ∙ w.if-not-is_covered.true) w.in_ok-put.ensures.lines;
      }
      | else-not-is_covered w ↦ record {
        indexed = subst IsIndexed (sym w.above-is) c.loop-line.invariant.indexed;
        kept = ap held_by w.above-is ∙ one_dropped lines i x left c.loop-line-test.true c.line-item.is c.loop-line.invariant.kept (sym c.is_covered.ensures ∙ w.if-not-is_covered.false);
      }
    ]
